use Rattle.std.proofs.Common.{rules, ◌≡◌, ◌∙◌, ◌+◌, ◌<◌, arith, length, sym, subst, Some, None}
use Rattle.vl_flow_cells.proofs.Lists.{get_some}
use Rattle.vl_flow_check.proofs.Firsts.{ArePassed, first_passed, more_passed, name_found, next_marked, no_name}
use Rattle.vl_flow_check.proofs.Firsts.{none_found}
use Rattle.vl_flow_check.proofs.Firsts.{some_not_none}
use Rattle.vl_flow_spec.specs.Refusals.{place_of}
use Rattle.vl_flow_check.proofs.first.first_named.Goals as goal

pub loop-next-init : goal.loop-next-init
loop-next-init c =
    let ds = c.args.decls.now in
    let drivers = c.args.drivers.now in
    let marked = c.args.marked.now in
    let next = c.first_from-next in record {
      passed = first_passed ds drivers marked next.result next.ensures.first;
      marked = next_marked ds drivers marked 0 next.result c.requires.marked.1.alone next.ensures.found;
    }

pub name_at-requires-clause-within : goal.name_at-requires-clause-within
name_at-requires-clause-within c =
    let here : c.loop-next.next ≡ Some c.in-Some.place = search (rules, c.in-Some.is) in
    c.requires.marked.1.known c.in-Some.place (c.loop-next.invariant.marked c.in-Some.place here)

pub returns-then-is_some : goal.returns-then-is_some
returns-then-is_some c test marks =
    let ds = c.args.decls.now in
    let drivers = c.args.drivers.now in
    let marked = c.args.marked.now in
    let place = c.in-Some.place in
    let here : c.loop-next.next ≡ Some place = search (rules, c.in-Some.is) in
    let is_marked = c.loop-next.invariant.marked place here in
    let r = get_some ds place (marks.known place is_marked) in
    name_found ds drivers marked test marks place r.0 c.in_ok-found.found r.1 is_marked
    (subst (ArePassed ds drivers marked) here c.loop-next.invariant.passed) (c.in_ok-found.ensures r.0 r.1)
    (some_not_none c.in_ok-found.found (sym c.is_some.ensures ∙ c.if-is_some.true))

pub overflow_add-place : goal.overflow_add-place
overflow_add-place c =
    let here : c.loop-next.next ≡ Some c.in-Some.place = search (rules, c.in-Some.is) in
    let less : c.in-Some.place < length c.args.decls.now =
    c.requires.marked.1.known c.in-Some.place (c.loop-next.invariant.marked c.in-Some.place here) in
    omega (arith, less, c.len-count.ensures.few)

pub loop-next-preserved : goal.loop-next-preserved
loop-next-preserved c =
    let ds = c.args.decls.now in
    let drivers = c.args.drivers.now in
    let marked = c.args.marked.now in
    let place = c.in-Some.place in
    let here : c.loop-next.next ≡ Some place = search (rules, c.in-Some.is) in
    let next = c.first_from-next-in-Some in record {
      passed = more_passed ds drivers marked place next.result
          (subst (ArePassed ds drivers marked) here c.loop-next.invariant.passed)
          (λ d at. no_name d.name (place_of drivers d) c.in_ok-found.found (c.in_ok-found.ensures d at)
          (sym c.is_some.ensures ∙ c.if-is_some.false)) next.ensures.first;
      marked = next_marked ds drivers marked (place + 1) next.result c.requires.marked.1.alone next.ensures.found;
    }

pub returns : goal.returns
returns c test marks =
    let ds = c.args.decls.now in
    let drivers = c.args.drivers.now in
    let marked = c.args.marked.now in
    let here : c.loop-next.next ≡ None = search (rules, c.in_default.is) in
    none_found ds drivers marked test marks
    (subst (ArePassed ds drivers marked) here c.loop-next.invariant.passed)
