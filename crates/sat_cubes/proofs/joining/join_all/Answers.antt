use Rattle.std.proofs.Common.{◌≡◌, ◌+◌, ◌<◌, ◌^◌, ◌∷◌, [], pos, length, ap, subst, ◌∙◌, arith}
use Rattle.sat_search.proofs.Places.{found}
use Rattle.lrat_check.specs.declared.step.Step.TheVariants.{Add}
use Rattle.cnf_form.specs.Cnf.{Cnf}
use Rattle.sat_cubes.specs.Joined.{Adds, CanSplit, Reaches, StaysAdded, AreRefuting}
use Rattle.sat_cubes.proofs.Ends.{on_ok}
use Rattle.sat_cubes.proofs.Standing.{closes, stays_added}
use Rattle.sat_cubes.proofs.joining.join_all.Goals as goal

pub returns-clause-stays : goal.returns-clause-stays
returns-clause-stays c =
    let s = c.loop-left.book in
    let now = c.add_join.new.book in
    let hints = pos c.index.result.now ∷ pos c.index-2.result.now ∷ [] in
    on_ok (Adds s now c.new.result.items hints) (StaysAdded c.args.book.now now)
    (λ adds clause t. stays_added s.steps (Add (s.top + 1) c.new.result.items hints ∷ []) now.steps clause adds.steps
    (c.loop-left.invariant.4 clause t)) c.add_join.result c.add_join.ensures

pub returns-clause-joins : goal.returns-clause-joins
returns-clause-joins c =
    let s = c.loop-left.book in
    let now = c.add_join.new.book in
    let split = c.args.split.now in
    let ids = c.loop-left.ids.items in
    let hints = pos c.index.result.now ∷ pos c.index-2.result.now ∷ [] in
    let one : c.loop-left.left ≡ 1 = omega (arith, c.loop-left.invariant.0, c.loop-left-test.false) in
    let two : length ids ≡ 2 = c.loop-left.invariant.2 ∙ ap (λ b. 2 ^ b) one in
    on_ok (Adds s now c.new.result.items hints)
    ((formula : Cnf) → CanSplit formula split
    → Reaches formula split (length split) (2 ^ length split) c.args.book.now c.args.ids.items
    → AreRefuting formula now.steps)
    (λ adds formula can reaches.
    closes formula split s now ids c.index.result.now c.index-2.result.now can.each (omega (arith, c.requires.some))
    (subst (λ b. Reaches formula split b (2 ^ b) s ids) one (c.loop-left.invariant.5 formula can reaches))
    (found ids 0 c.index.result.now (omega (arith, two)) c.index.ensures)
    (found ids 1 c.index-2.result.now (omega (arith, two)) c.index-2.ensures)
    (subst (λ xs. Adds s now xs hints) c.new.ensures.items adds)) c.add_join.result c.add_join.ensures
