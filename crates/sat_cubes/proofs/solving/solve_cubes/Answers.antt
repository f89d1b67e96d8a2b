use Rattle.std.proofs.Common.{◌≡◌, ◌<◌, ◌≤◌, ◌^◌, length, ap, sym, subst, ◌∙◌, arith}
use Rattle.std.specs.Prelude.{◌/◌}
use Rattle.rvf_jobs.specs.Answers.{AreAnswers}
use Rattle.sat_cubes.specs.Joined.{CanSplit}
use Rattle.sat_cubes.specs.Parts.{AreRefutations, IsPart}
use Rattle.sat_cubes.specs.Splits.{TellsCubes, AreSplit}
use Rattle.sat_cubes.specs.Outcomes.{ComesTo}
use Rattle.sat_cubes.proofs.Solves.{can_split, refutations_of, model_of, spent_of, told_of, told_none, ok_refuted}
use Rattle.sat_cubes.proofs.solving.solve_cubes.Goals as goal

pub parts_of-requires-clause-can : goal.parts_of-requires-clause-can
parts_of-requires-clause-can g c κs lives =
    subst (CanSplit c.args.formula.now) (sym c.as_slice.ensures.value)
    (can_split c.args.formula.now c.args.cubes c.in_ok-split.split.items c.in_ok-split.ensures c.requires.cubes
    (omega (arith, c.vars-vars.ensures.value, c.vars-vars.ensures.small)))

pub joined-requires-clause-can : goal.joined-requires-clause-can
joined-requires-clause-can g c =
    subst (CanSplit c.args.formula.now) (sym c.as_slice-in-Refuted.ensures.value)
    (can_split c.args.formula.now c.args.cubes c.in_ok-split.split.items c.in_ok-split.ensures c.requires.cubes
    (omega (arith, c.vars-vars.ensures.value, c.vars-vars.ensures.small)))

pub returns-in-Refuted-clause-cubes : goal.returns-in-Refuted-clause-cubes
returns-in-Refuted-clause-cubes g c =
    told_of c.args.formula.now c.args.cubes c.args.budget c.as_slice-in-Refuted.result.now c.in_ok-steps-in-Refuted.steps
    (subst (λ xs. AreSplit c.args.formula.now c.args.cubes xs) (sym c.as_slice-in-Refuted.ensures.value)
    c.in_ok-split.ensures) c.in_ok-steps-in-Refuted.ensures.cubes

pub returns-in-Model-clause-len : goal.returns-in-Model-clause-len
returns-in-Model-clause-len g c =
    (model_of c.args.formula.now c.as_slice.result.now c.max.result c.power_of_two-count.result
    c.in_ok-parts_of.field-0.items c.in_ok-parts_of.ensures c.in-Model.values
    (subst (ComesTo c.in_ok-parts_of.field-0.items) c.in-Model.is c.in_ok-values.ensures)).0

pub returns-in-Model-clause-model : goal.returns-in-Model-clause-model
returns-in-Model-clause-model g c =
    (model_of c.args.formula.now c.as_slice.result.now c.max.result c.power_of_two-count.result
    c.in_ok-parts_of.field-0.items c.in_ok-parts_of.ensures c.in-Model.values
    (subst (ComesTo c.in_ok-parts_of.field-0.items) c.in-Model.is c.in_ok-values.ensures)).1

pub joined-requires-clause-parts : goal.joined-requires-clause-parts
joined-requires-clause-parts g c =
    let f = c.args.formula.now in
    let split = c.as_slice.result.now in
    let parts = c.in_ok-parts_of.field-0.items in
    let n : c.len.result ≡ length split = omega (arith, c.len.ensures, ap length c.as_slice.ensures.value) in
    let all = refutations_of f split c.max.result c.power_of_two-count.result parts c.in_ok-parts_of.ensures
    c.in-Refuted.refutations.items (c.power_of_two-count.ensures.value ∙ ap (λ k. 2 ^ k) n)
    (subst (ComesTo parts) c.in-Refuted.is c.in_ok-values.ensures) in
    subst (λ xs. AreRefutations f xs c.as_slice-in-Refuted-2.result.now)
    (c.as_slice.ensures.value ∙ sym c.as_slice-in-Refuted.ensures.value)
    (subst (λ rs. AreRefutations f split rs) (sym c.as_slice-in-Refuted-2.ensures.value) all)

pub returns-clause-cubes : goal.returns-clause-cubes
returns-clause-cubes g c =
    let f = c.args.formula.now in
    let split = c.as_slice.result.now in
    let parts = c.in_ok-parts_of.field-0.items in
    let n : c.len.result ≡ length split = omega (arith, c.len.ensures, ap length c.as_slice.ensures.value) in
    let share : c.args.budget / c.power_of_two-count.result ≡ c.args.budget / 2 ^ length split =
    ap (λ k. c.args.budget / k) (c.power_of_two-count.ensures.value ∙ ap (λ k. 2 ^ k) n) in
    let least : c.args.budget / 2 ^ length split ≤ c.max.result = omega (arith, share, c.max.ensures) in
    let less = spent_of f split c.max.result c.power_of_two-count.result parts c.in_ok-parts_of.ensures
    (subst (ComesTo parts) c.in-Spent.is c.in_ok-values.ensures) in
    let are : AreSplit f c.args.cubes split =
    subst (AreSplit f c.args.cubes) (sym c.as_slice.ensures.value) c.in_ok-split.ensures in
    ok_refuted (TellsCubes f c.args.cubes c.args.budget)
    (λ steps. told_none f c.args.cubes c.args.budget c.max.result split steps are least less) c.solve.result
