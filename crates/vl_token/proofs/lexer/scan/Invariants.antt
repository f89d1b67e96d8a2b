use Rattle.std.proofs.Common.{length}
use Rattle.vl_token.specs.Steps.{HasRead}
use Rattle.vl_token.proofs.lexer.scan.Given as goal

abbrev pub invariant-loop-tokens : goal.invariant-loop-tokens
invariant-loop-tokens l = HasRead l.bytes l.fn.start l.rest l.pos l.tokens

abbrev pub decreases-loop-tokens : goal.decreases-loop-tokens
decreases-loop-tokens l = length l.rest
