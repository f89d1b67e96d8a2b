use Rattle.std.proofs.Common.{◌≡◌, arith, length, refl, sym, ◌∙◌, ◌<◌, ap, slice_get}
use Rattle.std.proofs.lemmas.Option.{slice_get_read}
use Rattle.vl_flow_check.specs.Rows.{picked, picks}
use Rattle.vl_flow_check.proofs.RowLists.{all_rows, no_rows, picked_more}
use Rattle.vl_flow_check.proofs.rows.name_rows.Goals as goal

pub loop-at-init : goal.loop-at-init
loop-at-init c ds drivers w =
    no_rows ds (picked c.args.which c.args.kind) drivers c.new-rows.result.items c.new-rows.ensures.items

pub loop-at-preserved : goal.loop-at-preserved
loop-at-preserved c ds drivers w =
    let at = c.loop-at.at in
    let all = c.as_slice-assigned.result.now in
    let fs = c.as_slice-footprints.result.now in
    let size : length fs ≡ length all =
    ap length c.as_slice-footprints.ensures ∙ c.requires ∙ sym (ap length c.as_slice-assigned.ensures) in
    let less : at < length fs = omega (arith, size, c.loop-at-test.true) in
    picked_more ds drivers c.args.layout.now w c.args.which c.args.kind at c.index-assigned-at.result
    c.index-footprints-at.result c.picks-counts.result c.loop-at.rows.items c.push.new.rows.items
    c.in_ok-row_of.field-0
    (ap (λ xs. slice_get xs at) (sym c.as_slice-assigned.ensures)
    ∙ slice_get_read all (length all) at c.index-assigned-at.result refl c.loop-at-test.true c.index-assigned-at.is)
    (ap (λ xs. slice_get xs at) (sym c.as_slice-footprints.ensures)
    ∙ slice_get_read fs (length fs) at c.index-footprints-at.result refl less c.index-footprints-at.is)
    (c.picks-counts.ensures ∙ ap (λ f. picks c.args.which f.is_clocked) (sym c.index-footprints-at.is))
    c.in_ok-row_of.ensures (c.loop-at.invariant ds drivers w) c.in_ok-push.ensures

pub returns : goal.returns
returns c ds drivers w =
    let past = c.loop-at-test.false in
    let size = ap length c.as_slice-assigned.ensures in
    all_rows ds (picked c.args.which c.args.kind) drivers c.loop-at.rows.items c.loop-at.at
    (omega (arith, past, size, w.assigned.size)) (c.loop-at.invariant ds drivers w)

pub bounds-footprints-at : goal.bounds-footprints-at
bounds-footprints-at c =
    let size : length c.as_slice-footprints.result.now ≡ length c.as_slice-assigned.result.now =
    ap length c.as_slice-footprints.ensures ∙ c.requires ∙ sym (ap length c.as_slice-assigned.ensures) in
    omega (arith, size, c.loop-at-test.true)
