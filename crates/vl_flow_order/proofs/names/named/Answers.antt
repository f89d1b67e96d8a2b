use Rattle.std.proofs.Common.{◌∙◌, sym, subst, take, get_or}
use Rattle.std.proofs.lemmas.List.{take_all, take_more}
use Rattle.vl_flow_order.specs.declared.visit.Visit.{Visit}
use Rattle.vl_flow_order.specs.Named.{AreMarks}
use Rattle.vl_flow_order.proofs.Marks.{names_of, no_marks, one_mark_more}
use Rattle.vl_flow_order.proofs.names.named.Goals as goal

pub loop-visit-init : goal.loop-visit-init
loop-visit-init c = no_marks c.new-marks.result.items c.new-marks.ensures.items

pub loop-visit-preserved : goal.loop-visit-preserved
loop-visit-preserved c =
    let all = c.as_slice-all.result.now in
    let d : Visit = record { group = 0; first = 0; past = 0 } in
    subst (λ vs. AreMarks vs c.push.new.marks.items)
    (sym (take_more all c.loop-visit.visit-index d c.loop-visit-test.true))
    (one_mark_more (take c.loop-visit.visit-index all) (get_or all c.loop-visit.visit-index d)
    c.loop-visit.marks.items c.push.new.marks.items c.in_ok-mark.field-0 c.loop-visit.invariant c.in_ok-mark.ensures
    c.in_ok-push.ensures)

pub returns : goal.returns
returns c =
    let all = c.as_slice-all.result.now in
    let done = take_all c.loop-visit.visit-index all c.loop-visit-test.false in
    names_of c.args.groups.now c.args.bits.now c.in_ok-union_of.field-0 c.in_ok-visits.visits.items
    (take c.loop-visit.visit-index all) c.loop-visit.marks.items c.as_slice.result.now c.in_ok-visits.ensures
    (done ∙ c.as_slice-all.ensures.value) c.loop-visit.invariant c.as_slice.ensures.value c.in_ok-union_of.ensures
