use Rattle.std.proofs.Common.{◌≡◌, ◌+◌, ◌<◌, ◌^◌, ◌∷◌, ◌++◌, [], pos, length, get_or, ap, sym, subst, ◌∙◌, length-append, arith}
use Rattle.std.proofs.lemmas.Option.{slice_get-get_or}
use Rattle.lrat_check.specs.declared.step.Step.TheVariants.{Add}
use Rattle.lrat_check.specs.Sets.{negs}
use Rattle.sat_cubes.specs.Cubes.{cube_of}
use Rattle.sat_cubes.specs.Joined.{Adds, Joins}
use Rattle.sat_cubes.proofs.Ends.{doubled, small_push}
use Rattle.sat_cubes.proofs.Standing.{joins_step, stays_added}
use Rattle.sat_cubes.proofs.joining.join.Goals as goal

pub loop-index-preserved : goal.loop-index-preserved
loop-index-preserved c =
    let k = c.loop-index.index in
    let split = c.args.split.now in
    let left = c.args.left in
    let ids = c.args.ids.now in
    let s = c.loop-index.book in
    let now = c.add_join.new.book in
    let joined = c.loop-index.joined.items in
    let items = c.in_ok-push.ensures.items in
    let top = c.top.ensures in
    let all = items ∙ ap (λ t. joined ++ t ∷ []) top in
    let long = ap length items ∙ length-append joined (c.top.result ∷ []) in
    let lits : c.in_ok-lits.lits.items ≡ negs (cube_of split left k) =
    c.in_ok-lits.ensures ∙ ap negs (c.as_slice.ensures.value ∙ c.in_ok-cube.ensures.lits) in
    let hints = pos (get_or ids k 0) ∷ pos (get_or ids (2 ^ left + k) 0) ∷ [] in
    let adds : Adds s now (negs (cube_of split left k)) hints =
    subst (λ h. Adds s now (negs (cube_of split left k)) (pos (get_or ids k 0) ∷ pos (get_or ids (h + k) 0) ∷ []))
    c.power_of_two-half.ensures.value
    (subst (λ xs. Adds s now xs (pos (get_or ids k 0) ∷ pos (get_or ids (c.power_of_two-half.result + k) 0) ∷ [])) lits
    c.in_ok-add_join.ensures) in
    let most = adds.most in
    let less : k < 2 ^ left = omega (arith, c.loop-index-test.true, c.power_of_two-half.ensures.value) in
    let whole = c.requires.whole in
    let double : 2 ^ (left + 1) ≡ 2 ^ left + 2 ^ left = doubled left in (
      omega (arith, long, c.loop-index.invariant.0),
      small_push joined c.push.new.self.items c.top.result c.loop-index.invariant.1 (omega (arith, most, top)) items,
      λ clause t. stays_added s.steps (Add (s.top + 1) (negs (cube_of split left k)) hints ∷ []) now.steps clause
          adds.steps (c.loop-index.invariant.2 clause t),
      λ formula can reaches.
          subst (λ xs. Joins formula split left now ids (k + 1) xs) (sym all)
          (joins_step formula split left can.each c.requires.room s now ids joined k (get_or ids k 0)
          (get_or ids (2 ^ left + k) 0) can.small c.requires.some (c.loop-index.invariant.3 formula can reaches) less
          (slice_get-get_or ids k 0 (omega (arith, less, whole, double)))
          (slice_get-get_or ids (2 ^ left + k) 0 (omega (arith, less, whole, double))) adds),
    )
