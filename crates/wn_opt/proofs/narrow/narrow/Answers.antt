use Rattle.std.specs.Prelude.{List, Bool, length}
use Rattle.std.proofs.Common.{ap, sym, ◌∙◌, subst}
use Rattle.wn_opt.specs.Marks.{AreClosed}
use Rattle.wn_opt.specs.Rebuilt.{AreNarrowed}
use Rattle.wn_opt.proofs.Narrowing.{is_narrowed, narrowed_first}
use Rattle.wn_opt.proofs.Whole.{needs_closed}
use Rattle.wn_opt.proofs.narrow.narrow.Goals as goal

pub narrow_nodes-requires-clause-closed : goal.narrow_nodes-requires-clause-closed
narrow_nodes-requires-clause-closed c =
    subst (AreClosed c.args.net.now) (sym c.as_slice.ensures.value)
    (needs_closed c.args.net.now c.args.roots.now c.in_ok-marks.marks c.in_ok-marks.ensures)

pub narrow_nodes-requires-clause-each : goal.narrow_nodes-requires-clause-each
narrow_nodes-requires-clause-each c = ap length c.as_slice.ensures.value ∙ c.in_ok-marks.ensures.each_node

pub narrow_nodes-requires-clause-narrowed : goal.narrow_nodes-requires-clause-narrowed
narrow_nodes-requires-clause-narrowed c =
    narrowed_first c.args.net.now c.new-part.result c.as_slice.result.now c.new-inputs.result.items
    c.new-part.ensures.regs c.new-part.ensures.mems c.new-part.ensures.inputs c.new-inputs.ensures.items

pub returns : goal.returns
returns c =
    let net = c.args.net.now in
    let part = c.narrow_nodes.new.part in
    let inputs = c.narrow_nodes.new.inputs.items in
    let t = c.in_ok-places.places.items in
    let P : List Bool → Type 0 = λ marks. AreNarrowed net marks part inputs t in
    is_narrowed net part c.args.roots.now c.in_ok-marks.marks inputs t c.whole.ensures c.whole-2.ensures
    c.requires.flat c.in_ok-marks.ensures (subst P c.as_slice.ensures.value c.in_ok-places.ensures.narrowed)
    c.in_ok-places.ensures.all
