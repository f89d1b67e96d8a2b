use Rattle.std.proofs.Common.{length}
use Rattle.vl_token.proofs.Closes.{ClosesOn}
use Rattle.vl_token.proofs.piece.split_close.Given as goal

abbrev pub invariant-loop-first : goal.invariant-loop-first
invariant-loop-first l = ClosesOn l.bytes l.rest

abbrev pub decreases-loop-first : goal.decreases-loop-first
decreases-loop-first l = length l.rest
