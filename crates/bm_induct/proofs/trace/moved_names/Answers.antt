use Rattle.std.proofs.Common.{arith}
use Rattle.bm_induct.proofs.Shown.{place_at}
use Rattle.bm_induct.proofs.trace.moved_names.Goals as goal

pub moved_name-requires-clause-place : goal.moved_name-requires-clause-place
moved_name-requires-clause-place c =
    place_at c.args.names.now.list c.as_slice-name-items.result.now c.loop-name.name-index c.name-item.result
    c.as_slice-name-items.ensures (omega arith) c.name-item.is c.requires.places
