use Rattle.std.proofs.Common.{◌≡◌, ◌<◌, ◌^◌, length, ap, sym, subst, ◌∙◌, arith}
use Rattle.std.specs.Prelude.{slice_get, Some}
use Rattle.lrat_check.specs.Sets.{negs}
use Rattle.sat_search.proofs.Places.{found}
use Rattle.sat_cubes.specs.Cubes.{cube_of}
use Rattle.sat_cubes.specs.Splits.{AddsClause}
use Rattle.sat_cubes.specs.Joined.{AreRefuting}
use Rattle.sat_cubes.proofs.Ends.{none_from, some_from}
use Rattle.sat_cubes.proofs.Turns.{lift_alone, begun, vars_of, all_small}
use Rattle.sat_cubes.proofs.joining.joined.Goals as goal

pub lift_cube-requires-clause-numbers : goal.lift_cube-requires-clause-numbers
lift_cube-requires-clause-numbers c =
    let rs = c.args.refutations.now in
    let e = none_from (length c.args.split.now) (sym c.is_empty.ensures ∙ c.if-is_empty.true) in
    let some : length rs ≡ 1 = c.requires.parts.whole ∙ ap (λ n. 2 ^ n) e in
    all_small c.args.formula.now c.args.split.now rs c.requires.can c.requires.parts 0 c.index-refutations-0.result
    (found rs 0 c.index-refutations-0.result (omega (arith, some)) c.index-refutations-0.is)

pub returns-then-is_empty-clause-refuted : goal.returns-then-is_empty-clause-refuted
returns-then-is_empty-clause-refuted c =
    let f = c.args.formula.now in
    let rs = c.args.refutations.now in
    let r = c.index-refutations-0.result in
    let e = none_from (length c.args.split.now) (sym c.is_empty.ensures ∙ c.if-is_empty.true) in
    let some : length rs ≡ 1 = c.requires.parts.whole ∙ ap (λ n. 2 ^ n) e in
    let at : slice_get rs 0 ≡ Some r = found rs 0 r (omega (arith, some)) c.index-refutations-0.is in
    let b = c.in_ok-book.ensures in
    subst (AreRefuting f) (sym c.into_steps.ensures)
    (lift_alone f c.args.split.now 0 r c.in_ok-book.book c.lift_cube.new.book c.requires.can
    c.len-clauses.ensures.literals (c.requires.parts.each 0 r at) c.in_ok-lift_cube.ensures e
    (begun f c.in_ok-book.book b.steps b.top b.most)).0

pub returns-then-is_empty-clause-cubes : goal.returns-then-is_empty-clause-cubes
returns-then-is_empty-clause-cubes c =
    let f = c.args.formula.now in
    let split = c.args.split.now in
    let rs = c.args.refutations.now in
    let r = c.index-refutations-0.result in
    let e = none_from (length split) (sym c.is_empty.ensures ∙ c.if-is_empty.true) in
    let some : length rs ≡ 1 = c.requires.parts.whole ∙ ap (λ n. 2 ^ n) e in
    let at : slice_get rs 0 ≡ Some r = found rs 0 r (omega (arith, some)) c.index-refutations-0.is in
    let b = c.in_ok-book.ensures in
    let told = (lift_alone f split 0 r c.in_ok-book.book c.lift_cube.new.book c.requires.can
    c.len-clauses.ensures.literals (c.requires.parts.each 0 r at) c.in_ok-lift_cube.ensures e
    (begun f c.in_ok-book.book b.steps b.top b.most)).1 in
    λ i h.
    let zero_is : 0 ≡ i = omega (arith, h, c.requires.parts.whole, some) in
    subst (λ steps. AddsClause steps (negs (cube_of split (length split) i))) (sym c.into_steps.ensures)
    (subst (λ j. AddsClause c.lift_cube.new.book.steps (negs (cube_of split (length split) j))) zero_is told)

pub lift_all-requires-clause-vars : goal.lift_all-requires-clause-vars
lift_all-requires-clause-vars c = vars_of c.args.formula.now c.args.split.now c.requires.can

pub lift_all-requires-clause-numbers : goal.lift_all-requires-clause-numbers
lift_all-requires-clause-numbers c =
    all_small c.args.formula.now c.args.split.now c.args.refutations.now c.requires.can c.requires.parts

pub join_all-requires-clause-vars : goal.join_all-requires-clause-vars
join_all-requires-clause-vars c = vars_of c.args.formula.now c.args.split.now c.requires.can

pub returns-clause-cubes : goal.returns-clause-cubes
returns-clause-cubes c =
    let f = c.args.formula.now in
    let split = c.args.split.now in
    let b = c.in_ok-book.ensures in
    let w = c.in_ok-ids.ensures.all f c.requires.can
    (some_from (length split) (sym c.is_empty.ensures ∙ c.if-is_empty.false)) c.len-clauses.ensures.literals c.requires.parts
    (begun f c.in_ok-book.book b.steps b.top b.most) in
    λ i h.
    subst (λ steps. AddsClause steps (negs (cube_of split (length split) i))) (sym c.into_steps-2.ensures)
    (c.in_ok-join_all.ensures.stays (negs (cube_of split (length split) i))
    (w.1 i (omega (arith, h, c.requires.parts.whole))))
