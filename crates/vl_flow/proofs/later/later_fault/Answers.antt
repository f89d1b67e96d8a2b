use Rattle.std.proofs.Common.{◌≡◌, ◌∙◌, List, None, Some, rules, subst, sym}
use Rattle.fv_bit_sets.specs.declared.step.Step.{Step}
use Rattle.vl_flow_spec.specs.Refusals.{latched_by}
use Rattle.vl_flow_check.specs.Rows.{AreSets}
use Rattle.vl_flow.proofs.Judging.{by_latch, by_mixed, by_shared, by_two, by_undriven}
use Rattle.vl_flow.proofs.later.later_fault.Goals as goal

pub latch-requires-clause-sets : goal.latch-requires-clause-sets
latch-requires-clause-sets c =
    let ds = c.args.decls.now in
    let slice : c.as_slice.result.now ≡ c.args.analysis.now.latched = search rules in
    subst (λ (xs : List (List Step)). AreSets ds (latched_by ds) xs c.args.drivers.now) (sym slice)
    c.requires.analysis.latched_are

pub returns-in-Some : goal.returns-in-Some
returns-in-Some c =
    by_latch c.args.decls.now c.args.drivers.now (c.in-Some.name, c.in-Some.pos) (sym c.in-Some.is ∙ c.in_ok-name.ensures)

pub returns-in-Some-2 : goal.returns-in-Some-2
returns-in-Some-2 c =
    let ds = c.args.decls.now in
    let drivers = c.args.drivers.now in
    let x = c.in-Some-2 in
    let one : c.in_ok-name.field-0 ≡ None = search (rules, c.in_default.is) in
    by_two ds drivers (x.name, x.bit, x.first, x.second) (sym one ∙ c.in_ok-name.ensures)
    (sym x.is ∙ c.in_ok-name-2.ensures)

pub returns-in-Some-3 : goal.returns-in-Some-3
returns-in-Some-3 c =
    let ds = c.args.decls.now in
    let drivers = c.args.drivers.now in
    let one : c.in_ok-name.field-0 ≡ None = search (rules, c.in_default.is) in
    let two : c.in_ok-name-2.field-0 ≡ None = search (rules, c.in_default-2.is) in
    by_undriven ds drivers (c.in-Some-3.name, c.in-Some-3.bit) (sym one ∙ c.in_ok-name.ensures)
    (sym two ∙ c.in_ok-name-2.ensures) (sym c.in-Some-3.is ∙ c.in_ok-name-3.ensures drivers c.requires.analysis.layout_is)

pub returns-in-Some-4 : goal.returns-in-Some-4
returns-in-Some-4 c =
    let ds = c.args.decls.now in
    let drivers = c.args.drivers.now in
    let one : c.in_ok-name.field-0 ≡ None = search (rules, c.in_default.is) in
    let two : c.in_ok-name-2.field-0 ≡ None = search (rules, c.in_default-2.is) in
    let three : c.in_ok-name-3.field-0 ≡ None = search (rules, c.in_default-3.is) in
    by_shared ds drivers (c.in-Some-4.name, c.in-Some-4.pos) (sym one ∙ c.in_ok-name.ensures)
    (sym two ∙ c.in_ok-name-2.ensures) (sym three ∙ c.in_ok-name-3.ensures drivers c.requires.analysis.layout_is)
    (sym c.in-Some-4.is ∙ c.in_ok-name-4.ensures)

pub returns-in-Some-5 : goal.returns-in-Some-5
returns-in-Some-5 c =
    let ds = c.args.decls.now in
    let drivers = c.args.drivers.now in
    let one : c.in_ok-name.field-0 ≡ None = search (rules, c.in_default.is) in
    let two : c.in_ok-name-2.field-0 ≡ None = search (rules, c.in_default-2.is) in
    let three : c.in_ok-name-3.field-0 ≡ None = search (rules, c.in_default-3.is) in
    let four : c.in_ok-name-4.field-0 ≡ None = search (rules, c.in_default-4.is) in
    by_mixed ds drivers (Some (c.in-Some-5.name, c.in-Some-5.pos)) (sym one ∙ c.in_ok-name.ensures)
    (sym two ∙ c.in_ok-name-2.ensures) (sym three ∙ c.in_ok-name-3.ensures drivers c.requires.analysis.layout_is) (sym four ∙ c.in_ok-name-4.ensures)
    (sym c.in-Some-5.is ∙ c.in_ok-name-5.ensures)

pub returns : goal.returns
returns c =
    let ds = c.args.decls.now in
    let drivers = c.args.drivers.now in
    let one : c.in_ok-name.field-0 ≡ None = search (rules, c.in_default.is) in
    let two : c.in_ok-name-2.field-0 ≡ None = search (rules, c.in_default-2.is) in
    let three : c.in_ok-name-3.field-0 ≡ None = search (rules, c.in_default-3.is) in
    let four : c.in_ok-name-4.field-0 ≡ None = search (rules, c.in_default-4.is) in
    let five : c.in_ok-name-5.field-0 ≡ None = search (rules, c.in_default-5.is) in
    by_mixed ds drivers None (sym one ∙ c.in_ok-name.ensures) (sym two ∙ c.in_ok-name-2.ensures)
    (sym three ∙ c.in_ok-name-3.ensures drivers c.requires.analysis.layout_is) (sym four ∙ c.in_ok-name-4.ensures) (sym five ∙ c.in_ok-name-5.ensures)
