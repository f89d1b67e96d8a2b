use Rattle.std.proofs.Common.{arith}
use Rattle.vl_token.proofs.Reading.{added}
use Rattle.vl_token.proofs.lexer.add_token.Goals as goal

pub returns-in-Ok : goal.returns-in-Ok
returns-in-Ok c = added _ _ _ c.in-Ok.ensures.ok (omega arith)
