use Rattle.std.proofs.Common.{arith}
use Rattle.sat_search.proofs.order.open_from.Goals as goal

pub returns : goal.returns
returns c = λ k a b. c.loop-index.invariant k a (omega (arith, b))
