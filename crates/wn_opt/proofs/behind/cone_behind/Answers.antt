use Rattle.std.specs.Prelude.{Bool, List, ◌++◌, ◌∷◌, []}
use Rattle.std.proofs.Common.{refl, sym, ◌∙◌, subst}
use Rattle.wn_opt.specs.Marks.{AreClosed}
use Rattle.wn_opt.specs.Parts.{AreBare}
use Rattle.wn_opt.proofs.Growing.{among_is, cone_behind, copied_from, first_bare, first_copied, first_front}
use Rattle.wn_opt.proofs.Growing.{fresh_by, fresh_placed, grown_regs, stands_behind}
use Rattle.wn_opt.proofs.Whole.{copied_by, keeps_runs, mems_by, needs_closed, nexts_by}
use Rattle.wn_opt.proofs.behind.cone_behind.Goals as goal

pub copy_nodes-requires-clause-front : goal.copy_nodes-requires-clause-front
copy_nodes-requires-clause-front c =
    let net = c.args.net.now in
    first_front net c.args.first.now c.as_slice.result.now c.args.part c.args.places c.in_ok-marks.marks c.requires.cone
    c.whole.ensures c.whole-2.ensures
    (among_is c.as_slice.result.now c.args.first.now c.args.root (c.as_slice.ensures.value ∙ c.in_ok-roots.ensures))
    c.in_ok-marks.ensures

pub copy_nodes-requires-clause-copied : goal.copy_nodes-requires-clause-copied
copy_nodes-requires-clause-copied c =
    let net = c.args.net.now in
    copied_from net c.args.part c.in_ok-marks.marks c.as_slice-nodes.result.now c.args.places
    c.into_vec-table.result.items c.as_slice-nodes.ensures.value c.into_vec-table.ensures
    (first_copied net c.args.first.now c.as_slice.result.now c.args.part c.args.places c.in_ok-marks.marks c.requires.cone
    c.whole.ensures c.whole-2.ensures
    (among_is c.as_slice.result.now c.args.first.now c.args.root (c.as_slice.ensures.value ∙ c.in_ok-roots.ensures))
    c.in_ok-marks.ensures)

pub copy_nodes-requires-clause-closed : goal.copy_nodes-requires-clause-closed
copy_nodes-requires-clause-closed c =
    subst (AreClosed c.args.net.now) (sym c.as_slice-nodes.ensures.value)
    (needs_closed c.args.net.now c.as_slice.result.now c.in_ok-marks.marks c.in_ok-marks.ensures)

pub join_regs-requires-clause-regs : goal.join_regs-requires-clause-regs
join_regs-requires-clause-regs c =
    let net = c.args.net.now in
    grown_regs net c.args.first.now c.as_slice.result.now c.args.part c.args.places c.in_ok-marks.marks c.requires.cone
    c.whole.ensures c.whole-2.ensures
    (among_is c.as_slice.result.now c.args.first.now c.args.root (c.as_slice.ensures.value ∙ c.in_ok-roots.ensures))
    c.in_ok-marks.ensures c.copy_nodes.new.part c.in_ok-copy_nodes.ensures.adds

pub join_regs-requires-clause-placed : goal.join_regs-requires-clause-placed
join_regs-requires-clause-placed c =
    let net = c.args.net.now in
    nexts_by net c.as_slice.result.now c.in_ok-marks.marks c.as_slice-nodes.result.now c.copy_nodes.new.places.items
    c.as_slice-now.result.now c.copy_nodes.new.part c.in_ok-marks.ensures c.as_slice-nodes.ensures.value
    c.as_slice-now.ensures.value c.in_ok-copy_nodes.ensures.copied c.in_ok-copy_nodes.ensures.all c.as_slice-4.result.now c.as_slice-4.ensures.value

pub join_mems-requires-clause-bare : goal.join_mems-requires-clause-bare
join_mems-requires-clause-bare c =
    let net = c.args.net.now in
    let P : List Bool → Type 0 = λ bs. AreBare net bs c.join_regs.new.part in
    subst P (sym c.as_slice-5.ensures.value)
    (first_bare net c.args.first.now c.as_slice.result.now c.args.part c.args.places c.in_ok-marks.marks c.requires.cone
    c.whole.ensures c.whole-2.ensures
    (among_is c.as_slice.result.now c.args.first.now c.args.root (c.as_slice.ensures.value ∙ c.in_ok-roots.ensures))
    c.in_ok-marks.ensures c.in_ok-before.before c.in_ok-fresh.fresh.items _ c.in_ok-before.ensures
    (fresh_by c.as_slice-2.result.now c.as_slice-3.result.now c.in_ok-marks.marks.mems.items
    c.in_ok-before.before.mems.items c.in_ok-fresh.fresh.items c.as_slice-2.ensures.value c.as_slice-3.ensures.value
    c.in_ok-fresh.ensures) c.join_regs.new.part
    (c.join_regs.ensures.mems ∙ c.in_ok-copy_nodes.ensures.adds.mems))

pub join_mems-requires-clause-copied : goal.join_mems-requires-clause-copied
join_mems-requires-clause-copied c =
    let net = c.args.net.now in
    copied_by net c.as_slice.result.now c.in_ok-marks.marks c.as_slice-nodes.result.now c.copy_nodes.new.places.items
    c.as_slice-now.result.now c.copy_nodes.new.part c.in_ok-marks.ensures c.as_slice-nodes.ensures.value
    c.as_slice-now.ensures.value c.in_ok-copy_nodes.ensures.copied c.in_ok-copy_nodes.ensures.all c.join_regs.new.part c.join_regs.ensures.same

pub join_mems-requires-clause-placed : goal.join_mems-requires-clause-placed
join_mems-requires-clause-placed c =
    let net = c.args.net.now in
    fresh_placed net c.in_ok-marks.marks.mems.items c.in_ok-before.before.mems.items c.in_ok-fresh.fresh.items _
    c.as_slice-now.result.now (fresh_by c.as_slice-2.result.now c.as_slice-3.result.now c.in_ok-marks.marks.mems.items
    c.in_ok-before.before.mems.items c.in_ok-fresh.fresh.items c.as_slice-2.ensures.value c.as_slice-3.ensures.value
    c.in_ok-fresh.ensures)
    (mems_by net c.as_slice.result.now c.in_ok-marks.marks c.as_slice-nodes.result.now c.copy_nodes.new.places.items
    c.as_slice-now.result.now c.copy_nodes.new.part c.in_ok-marks.ensures c.as_slice-nodes.ensures.value
    c.as_slice-now.ensures.value c.in_ok-copy_nodes.ensures.copied c.in_ok-copy_nodes.ensures.all c.in_ok-marks.marks.mems.items refl) c.as_slice-5.result.now c.as_slice-5.ensures.value

pub returns-clause-cone : goal.returns-clause-cone
returns-clause-cone c =
    let net = c.args.net.now in
    cone_behind net c.args.first.now c.args.root c.as_slice.result.now c.args.part c.args.places c.in_ok-before.before
    c.in_ok-marks.marks (c.as_slice.ensures.value ∙ c.in_ok-roots.ensures) c.requires.cone c.whole.ensures
    c.whole-2.ensures c.in_ok-before.ensures c.in_ok-marks.ensures c.in_ok-fresh.fresh.items
    (fresh_by c.as_slice-2.result.now c.as_slice-3.result.now c.in_ok-marks.marks.mems.items
    c.in_ok-before.before.mems.items c.in_ok-fresh.fresh.items c.as_slice-2.ensures.value c.as_slice-3.ensures.value
    c.in_ok-fresh.ensures) c.requires.assumed c.copy_nodes.new.part c.join_regs.new.part c.join_mems.new.part
    c.in_ok-copy_nodes.ensures.adds c.as_slice-nodes.result.now c.as_slice-4.result.now c.as_slice-5.result.now
    c.into_vec-table.result.items c.copy_nodes.new.places.items c.as_slice-now.result.now c.from_vec.result
    c.as_slice-nodes.ensures.value c.as_slice-4.ensures.value c.as_slice-5.ensures.value c.into_vec-table.ensures
    c.as_slice-now.ensures.value c.from_vec.ensures c.in_ok-copy_nodes.ensures.copied c.in_ok-copy_nodes.ensures.all
    c.in_ok-copy_nodes.ensures.kept c.join_regs.ensures c.in_ok-join_mems.ensures

pub returns-clause-runs : goal.returns-clause-runs
returns-clause-runs c =
    let net = c.args.net.now in
    keeps_runs net (c.args.first.now ++ c.args.root ∷ []) c.join_mems.new.part c.from_vec.result
    (cone_behind net c.args.first.now c.args.root c.as_slice.result.now c.args.part c.args.places c.in_ok-before.before
    c.in_ok-marks.marks (c.as_slice.ensures.value ∙ c.in_ok-roots.ensures) c.requires.cone c.whole.ensures
    c.whole-2.ensures c.in_ok-before.ensures c.in_ok-marks.ensures c.in_ok-fresh.fresh.items
    (fresh_by c.as_slice-2.result.now c.as_slice-3.result.now c.in_ok-marks.marks.mems.items
    c.in_ok-before.before.mems.items c.in_ok-fresh.fresh.items c.as_slice-2.ensures.value c.as_slice-3.ensures.value
    c.in_ok-fresh.ensures) c.requires.assumed c.copy_nodes.new.part c.join_regs.new.part c.join_mems.new.part
    c.in_ok-copy_nodes.ensures.adds c.as_slice-nodes.result.now c.as_slice-4.result.now c.as_slice-5.result.now
    c.into_vec-table.result.items c.copy_nodes.new.places.items c.as_slice-now.result.now c.from_vec.result
    c.as_slice-nodes.ensures.value c.as_slice-4.ensures.value c.as_slice-5.ensures.value c.into_vec-table.ensures
    c.as_slice-now.ensures.value c.from_vec.ensures c.in_ok-copy_nodes.ensures.copied c.in_ok-copy_nodes.ensures.all
    c.in_ok-copy_nodes.ensures.kept c.join_regs.ensures c.in_ok-join_mems.ensures)
    c.whole.ensures c.whole-3.ensures

pub returns-clause-behind : goal.returns-clause-behind
returns-clause-behind c =
    let net = c.args.net.now in
    stands_behind net c.args.first.now c.args.root c.as_slice.result.now c.args.part c.args.places c.in_ok-before.before
    c.in_ok-marks.marks (c.as_slice.ensures.value ∙ c.in_ok-roots.ensures) c.requires.cone c.whole.ensures
    c.whole-2.ensures c.in_ok-before.ensures c.in_ok-marks.ensures c.in_ok-fresh.fresh.items
    (fresh_by c.as_slice-2.result.now c.as_slice-3.result.now c.in_ok-marks.marks.mems.items
    c.in_ok-before.before.mems.items c.in_ok-fresh.fresh.items c.as_slice-2.ensures.value c.as_slice-3.ensures.value
    c.in_ok-fresh.ensures) c.requires.assumed c.copy_nodes.new.part c.join_regs.new.part c.join_mems.new.part
    c.in_ok-copy_nodes.ensures.adds c.as_slice-nodes.result.now c.as_slice-4.result.now c.as_slice-5.result.now
    c.into_vec-table.result.items c.copy_nodes.new.places.items c.as_slice-now.result.now c.from_vec.result
    c.as_slice-nodes.ensures.value c.as_slice-4.ensures.value c.as_slice-5.ensures.value c.into_vec-table.ensures
    c.as_slice-now.ensures.value c.from_vec.ensures c.in_ok-copy_nodes.ensures.copied c.in_ok-copy_nodes.ensures.all
    c.in_ok-copy_nodes.ensures.kept c.join_regs.ensures c.in_ok-join_mems.ensures
