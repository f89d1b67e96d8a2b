use Rattle.std.proofs.Common.{arith}
use Rattle.sat_propagate.proofs.Looks.{lit_index}
use Rattle.sat_propagate.proofs.look.find.Goals as goal

pub is_false-requires : goal.is_false-requires
is_false-requires c = lit_index c.args.clause.now c.loop-k.k c.requires (omega (arith, c.loop-k-test.true))
