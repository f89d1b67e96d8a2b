use Rattle.std.proofs.Common.{rules, ◌≡◌, ◌∙◌, ◌+◌, arith, sym, subst, Some, None}
use Rattle.vl_flow_spec.specs.Weight.{widths_of}
use Rattle.vl_flow_order.proofs.Visiting.{next_set}
use Rattle.vl_flow_weight.proofs.Adding.{Sums, sum_done}
use Rattle.vl_flow_weight.proofs.Merging.{from_next, merge_begun, merge_more, merge_past, place_less}
use Rattle.vl_flow_weight.proofs.names.merge_weight.Goals as goal

pub loop-next-init : goal.loop-next-init
loop-next-init c =
    let ds = c.args.decls.now in
    let marked = c.args.names.now in
    let next = c.first_from-next in record {
      total = λ all are. merge_begun all ds marked are next.result next.ensures.found next.ensures.first;
      set = next_set marked 0 next.result next.ensures.found;
    }

pub overflow_add-place : goal.overflow_add-place
overflow_add-place c =
    let less = place_less c.args.decls.now c.in-Some.place c.in-Some-width_at.width
    (sym c.in-Some-width_at.is ∙ c.width_at.ensures) in
    omega (arith, less, c.len-count.ensures.few)

pub loop-next-preserved : goal.loop-next-preserved
loop-next-preserved c =
    let ds = c.args.decls.now in
    let marked = c.args.names.now in
    let place = c.in-Some.place in
    let here : c.loop-next.next ≡ Some place = search (rules, c.in-Some.is) in
    let set = c.loop-next.invariant.set place here in
    let next = c.first_from-next-in-Some in record {
      total = λ all are.
          merge_more all ds marked are c.loop-next.weight place set.0 c.in-Some-width_at.width c.plus-weight.result
          next.result set.1 (sym c.in-Some-width_at.is ∙ c.width_at.ensures) c.plus-weight.ensures next.ensures.found next.ensures.first
          (subst (λ o. Sums c.loop-next.weight (from_next all ds o) (widths_of ds all)) here
          (c.loop-next.invariant.total all are));
      set = next_set marked (place + 1) next.result next.ensures.found;
    }

pub returns : goal.returns
returns c all are =
    let ds = c.args.decls.now in
    let here : c.loop-next.next ≡ None = search (rules, c.in_default.is) in
    sum_done c.loop-next.weight (widths_of ds all)
    (subst (λ o. Sums c.loop-next.weight (from_next all ds o) (widths_of ds all)) here
    (c.loop-next.invariant.total all are))

pub returns-in_default-width_at : goal.returns-in_default-width_at
returns-in_default-width_at c all are =
    let ds = c.args.decls.now in
    let place = c.in-Some.place in
    let here : c.loop-next.next ≡ Some place = search (rules, c.in-Some.is) in
    merge_past all ds c.args.names.now are c.loop-next.weight place
    (sym c.in_default-width_at.is ∙ c.width_at.ensures)
    (subst (λ o. Sums c.loop-next.weight (from_next all ds o) (widths_of ds all)) here
    (c.loop-next.invariant.total all are))
