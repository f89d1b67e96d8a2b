use Rattle.std.proofs.Common.{arith, length, refl, sym, ◌∙◌, ap, slice_get}
use Rattle.std.proofs.lemmas.Option.{slice_get_read}
use Rattle.vl_flow_spec.specs.Refusals.{has_bit}
use Rattle.vl_flow_spec.specs.Drivers.{needed_by}
use Rattle.vl_flow_check.proofs.RowLists.{all_rows, no_rows, read_more}
use Rattle.vl_flow_check.proofs.rows.read_rows.Goals as goal

pub loop-footprint-init : goal.loop-footprint-init
loop-footprint-init c ds drivers w =
    no_rows ds (λ x. has_bit (needed_by ds x.what)) drivers c.new-rows.result.items c.new-rows.ensures.items

pub loop-footprint-preserved : goal.loop-footprint-preserved
loop-footprint-preserved c ds drivers w =
    let at = c.loop-footprint.footprint-index in
    let fs = c.as_slice-footprints.result.now in
    let f = c.footprint-item.result in
    read_more ds drivers c.args.layout.now w at f c.loop-footprint.rows.items c.push.new.rows.items
    c.in_ok-names.field-0
    (ap (λ xs. slice_get xs at) (sym c.as_slice-footprints.ensures)
    ∙ slice_get_read fs (length fs) at f refl c.loop-footprint-test.true c.footprint-item.is)
    c.in_ok-names.ensures (c.loop-footprint.invariant ds drivers w) c.in_ok-push.ensures

pub returns : goal.returns
returns c ds drivers w =
    let past = c.loop-footprint-test.false in
    let size = ap length c.as_slice-footprints.ensures in
    all_rows ds (λ x. has_bit (needed_by ds x.what)) drivers c.loop-footprint.rows.items
    c.loop-footprint.footprint-index (omega (arith, past, size, w.footprints.size))
    (c.loop-footprint.invariant ds drivers w)
