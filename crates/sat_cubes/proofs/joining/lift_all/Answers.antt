use Rattle.std.proofs.Common.{◌≡◌, ◌+◌, ◌<◌, ◌∷◌, ◌++◌, [], length, ap, sym, subst, ◌∙◌, length-append, arith}
use Rattle.std.specs.Prelude.{slice_get, Some}
use Rattle.sat_search.proofs.Places.{found}
use Rattle.sat_cubes.specs.Joined.{Reaches, Tells}
use Rattle.sat_cubes.proofs.Ends.{small_push}
use Rattle.sat_cubes.proofs.Turns.{lift_next}
use Rattle.sat_cubes.proofs.joining.lift_all.Goals as goal

pub loop-index-preserved : goal.loop-index-preserved
loop-index-preserved c =
    let k = c.loop-index.index in
    let split = c.args.split.now in
    let r = c.index-refutations-index.result in
    let s = c.loop-index.book in
    let now = c.lift_cube.new.book in
    let ids = c.loop-index.ids.items in
    let lifts = c.in_ok-lift_cube.ensures in
    let items = c.in_ok-push.ensures.items in
    let top = c.top.ensures in
    let all = items ∙ ap (λ t. ids ++ t ∷ []) top in
    let long = ap length items ∙ length-append ids (c.top.result ∷ []) in
    let at : slice_get c.args.refutations.now k ≡ Some r =
    found c.args.refutations.now k r (omega (arith, c.loop-index-test.true)) c.index-refutations-index.is in (
      omega (arith, long, c.loop-index.invariant.0),
      λ h.
          let w = c.loop-index.invariant.1 h in
          let low = lifts.most w.0 in
          (low, small_push ids c.push.new.self.items c.top.result w.1 (omega (arith, low, top)) items),
      λ formula can some names parts stands.
          let w = c.loop-index.invariant.2 formula can some names parts stands in
          let m = lift_next formula split k r s now can names (parts.each k r at) lifts ids some w.0 w.1 in
          (subst (λ xs. Reaches formula split (length split) (k + 1) now xs) (sym all) m.0, m.1),
    )

pub returns-clause-all : goal.returns-clause-all
returns-clause-all c =
    let e : c.loop-index.index ≡ length c.args.refutations.now = omega (arith, c.loop-index-test.false) in
    λ formula can some names parts stands.
    subst (λ n. Reaches formula c.args.split.now (length c.args.split.now) n c.loop-index.book c.loop-index.ids.items
    × Tells c.args.split.now n c.loop-index.book.steps) e
    (c.loop-index.invariant.2 formula can some names parts stands)
