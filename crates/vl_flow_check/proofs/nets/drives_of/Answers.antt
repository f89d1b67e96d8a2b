use Rattle.std.proofs.Common.{arith, length, refl, sym, ◌∙◌, ap, slice_get}
use Rattle.std.proofs.lemmas.Option.{slice_get_read}
use Rattle.vl_flow_spec.specs.Drivers.{driven_by}
use Rattle.vl_flow_check.proofs.RowLists.{all_sets, drives_more, no_sets}
use Rattle.vl_flow_check.proofs.nets.drives_of.Goals as goal

pub loop-footprint-init : goal.loop-footprint-init
loop-footprint-init c ds drivers w =
    no_sets ds (driven_by ds) drivers c.new-sets.result.items c.new-sets.ensures.items

pub loop-footprint-preserved : goal.loop-footprint-preserved
loop-footprint-preserved c ds drivers w =
    let at = c.loop-footprint.footprint-index in
    let fs = c.as_slice-footprints.result.now in
    let f = c.footprint-item.result in
    drives_more ds drivers c.args.layout.now w at f c.loop-footprint.sets.items c.push.new.sets.items
    c.in_ok-copy.copy
    (ap (λ xs. slice_get xs at) (sym c.as_slice-footprints.ensures)
    ∙ slice_get_read fs (length fs) at f refl c.loop-footprint-test.true c.footprint-item.is)
    c.in_ok-copy.ensures (c.loop-footprint.invariant ds drivers w) c.in_ok-push.ensures

pub returns : goal.returns
returns c ds drivers w =
    let past = c.loop-footprint-test.false in
    let size = ap length c.as_slice-footprints.ensures in
    all_sets ds (driven_by ds) drivers c.loop-footprint.sets.items c.loop-footprint.footprint-index
    (omega (arith, past, size, w.footprints.size)) (c.loop-footprint.invariant ds drivers w)
