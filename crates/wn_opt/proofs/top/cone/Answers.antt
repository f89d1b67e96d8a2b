use Rattle.std.specs.Prelude.{◌+◌, length}
use Rattle.std.proofs.Common.{sym, ◌∙◌, subst}
use Rattle.wn_opt.specs.Marks.{AreClosed}
use Rattle.wn_opt.proofs.Copying.{copied_first}
use Rattle.wn_opt.proofs.Framing.{frame_of, framed, front_of}
use Rattle.wn_opt.proofs.Joining.{all_bare, same_none, same_on}
use Rattle.wn_opt.proofs.Whole.{cone_by, copied_by, keeps_runs, mems_by, needs_closed, nexts_by}
use Rattle.wn_opt.proofs.top.cone.Goals as goal

pub copy_nodes-requires-clause-closed : goal.copy_nodes-requires-clause-closed
copy_nodes-requires-clause-closed c =
    subst (AreClosed c.args.net.now) (sym c.as_slice-nodes.ensures.value)
    (needs_closed c.args.net.now c.args.roots.now c.in_ok-marks.marks c.in_ok-marks.ensures)

pub copy_nodes-requires-clause-front : goal.copy_nodes-requires-clause-front
copy_nodes-requires-clause-front c =
    front_of c.args.net.now c.in_ok-part.part (frame_of c.args.net.now c.in_ok-part.part c.in_ok-part.ensures)

pub copy_nodes-requires-clause-copied : goal.copy_nodes-requires-clause-copied
copy_nodes-requires-clause-copied c =
    copied_first c.args.net.now c.in_ok-part.part c.as_slice-nodes.result.now c.in_ok-table.table.items
    c.in_ok-part.ensures c.in_ok-table.ensures.none

pub join_regs-requires-clause-regs : goal.join_regs-requires-clause-regs
join_regs-requires-clause-regs c =
    let frame = framed c.args.net.now c.in_ok-part.part c.copy_nodes.new.part c.in_ok-part.ensures
    c.in_ok-copy_nodes.ensures.adds in
    λ i r e. (length c.args.net.now.inputs + i, frame.regs i r e)

pub join_regs-requires-clause-copied : goal.join_regs-requires-clause-copied
join_regs-requires-clause-copied c =
    copied_by c.args.net.now c.args.roots.now c.in_ok-marks.marks c.as_slice-nodes.result.now c.copy_nodes.new.places.items
    c.as_slice-places.result.now c.copy_nodes.new.part c.in_ok-marks.ensures c.as_slice-nodes.ensures.value
    c.as_slice-places.ensures.value c.in_ok-copy_nodes.ensures.copied c.in_ok-copy_nodes.ensures.all c.copy_nodes.new.part
    (same_none c.copy_nodes.new.part)

pub join_regs-requires-clause-placed : goal.join_regs-requires-clause-placed
join_regs-requires-clause-placed c =
    nexts_by c.args.net.now c.args.roots.now c.in_ok-marks.marks c.as_slice-nodes.result.now c.copy_nodes.new.places.items
    c.as_slice-places.result.now c.copy_nodes.new.part c.in_ok-marks.ensures c.as_slice-nodes.ensures.value
    c.as_slice-places.ensures.value c.in_ok-copy_nodes.ensures.copied c.in_ok-copy_nodes.ensures.all c.as_slice.result.now
    c.as_slice.ensures.value

pub join_mems-requires-clause-bare : goal.join_mems-requires-clause-bare
join_mems-requires-clause-bare c =
    let frame = framed c.args.net.now c.in_ok-part.part c.copy_nodes.new.part c.in_ok-part.ensures
    c.in_ok-copy_nodes.ensures.adds in
    all_bare c.args.net.now c.join_regs.new.part c.as_slice-2.result.now (c.join_regs.ensures.mems ∙ frame.mems)

pub join_mems-requires-clause-copied : goal.join_mems-requires-clause-copied
join_mems-requires-clause-copied c =
    copied_by c.args.net.now c.args.roots.now c.in_ok-marks.marks c.as_slice-nodes.result.now c.copy_nodes.new.places.items
    c.as_slice-places.result.now c.copy_nodes.new.part c.in_ok-marks.ensures c.as_slice-nodes.ensures.value
    c.as_slice-places.ensures.value c.in_ok-copy_nodes.ensures.copied c.in_ok-copy_nodes.ensures.all c.join_regs.new.part
    c.join_regs.ensures.same

pub join_mems-requires-clause-placed : goal.join_mems-requires-clause-placed
join_mems-requires-clause-placed c =
    mems_by c.args.net.now c.args.roots.now c.in_ok-marks.marks c.as_slice-nodes.result.now c.copy_nodes.new.places.items
    c.as_slice-places.result.now c.copy_nodes.new.part c.in_ok-marks.ensures c.as_slice-nodes.ensures.value
    c.as_slice-places.ensures.value c.in_ok-copy_nodes.ensures.copied c.in_ok-copy_nodes.ensures.all c.as_slice-2.result.now
    c.as_slice-2.ensures.value

pub join_assumes-requires-clause-copied : goal.join_assumes-requires-clause-copied
join_assumes-requires-clause-copied c =
    copied_by c.args.net.now c.args.roots.now c.in_ok-marks.marks c.as_slice-nodes.result.now c.copy_nodes.new.places.items
    c.as_slice-places.result.now c.copy_nodes.new.part c.in_ok-marks.ensures c.as_slice-nodes.ensures.value
    c.as_slice-places.ensures.value c.in_ok-copy_nodes.ensures.copied c.in_ok-copy_nodes.ensures.all c.join_mems.new.part
    (same_on c.copy_nodes.new.part c.join_regs.new.part c.join_mems.new.part c.join_regs.ensures.same
    c.in_ok-join_mems.ensures.same)

pub returns-clause-cone : goal.returns-clause-cone
returns-clause-cone c =
    cone_by c.args.net.now c.args.roots.now c.in_ok-marks.marks c.as_slice-nodes.result.now c.copy_nodes.new.places.items
    c.as_slice-places.result.now c.copy_nodes.new.part c.in_ok-marks.ensures c.as_slice-nodes.ensures.value
    c.as_slice-places.ensures.value c.in_ok-copy_nodes.ensures.copied c.in_ok-copy_nodes.ensures.all c.as_slice.result.now
    c.as_slice-2.result.now c.from_vec.result c.join_regs.new.part c.join_mems.new.part c.join_assumes.new.part
    c.as_slice.ensures.value c.as_slice-2.ensures.value c.from_vec.ensures (framed c.args.net.now c.in_ok-part.part c.copy_nodes.new.part c.in_ok-part.ensures
    c.in_ok-copy_nodes.ensures.adds)
    c.join_regs.ensures c.in_ok-join_mems.ensures c.in_ok-join_assumes.ensures

pub returns-clause-runs : goal.returns-clause-runs
returns-clause-runs c =
    keeps_runs c.args.net.now c.args.roots.now c.join_assumes.new.part c.from_vec.result
    (cone_by c.args.net.now c.args.roots.now c.in_ok-marks.marks c.as_slice-nodes.result.now c.copy_nodes.new.places.items
    c.as_slice-places.result.now c.copy_nodes.new.part c.in_ok-marks.ensures c.as_slice-nodes.ensures.value
    c.as_slice-places.ensures.value c.in_ok-copy_nodes.ensures.copied c.in_ok-copy_nodes.ensures.all c.as_slice.result.now
    c.as_slice-2.result.now c.from_vec.result c.join_regs.new.part c.join_mems.new.part c.join_assumes.new.part
    c.as_slice.ensures.value c.as_slice-2.ensures.value c.from_vec.ensures (framed c.args.net.now c.in_ok-part.part c.copy_nodes.new.part c.in_ok-part.ensures
    c.in_ok-copy_nodes.ensures.adds)
    c.join_regs.ensures c.in_ok-join_mems.ensures c.in_ok-join_assumes.ensures)
    c.whole.ensures c.whole-2.ensures
