use Rattle.std.proofs.Common.{◌≡◌, ◌∙◌, ◌+◌, ◌-◌, ◌++◌, ◌∷◌, ap, arith}
use Rattle.std.specs.Prelude.{drop, slice_get, Some}
use Rattle.std.proofs.lemmas.Grind.{common_steps}
use Rattle.vl_elab_check_instance.specs.declared.parameters.Spot.TheVariants as s
use Rattle.vl_elab_check_instance.specs.Parameters.{spot_in}
use Rattle.vl_elab_check_instance.proofs.Found.{found_put, at_front}
use Rattle.vl_elab_check_instance.proofs.parameters.ParameterTable.put_all.Goals as goal

pub loop-inner-preserved : goal.loop-inner-preserved
loop-inner-preserved c =
    let all = c.args.all.now in
    let x = c.index-all-inner.result in
    let next : c.loop-inner.inner - 1 + 1 ≡ c.loop-inner.inner = omega arith in
    let front : drop (c.loop-inner.inner - 1) c.args.all.now ≡ c.index-all-inner.result
    ∷ drop (c.loop-inner.inner - 1 + 1) c.args.all.now = grind (arith, common_steps) in
    let here : slice_get c.args.all.now (c.loop-inner.inner - 1) ≡ Some c.index-all-inner.result =
    at_front c.args.all.now (c.loop-inner.inner - 1) c.index-all-inner.result
    (drop (c.loop-inner.inner - 1 + 1) c.args.all.now) front in
    record {
      within = omega arith;
      finds = λ hs xs ps there h text.
          found_put hs xs (spot_in c.loop-inner.self) (spot_in c.put_parameter.new.self)
          (s.Item c.args.place (c.loop-inner.inner - 1)) x (drop c.loop-inner.inner all ++ ps)
          (drop (c.loop-inner.inner - 1) all ++ ps) text
          (ap (λ l. l ++ ps) (front ∙ ap (λ n. x ∷ drop n all) next))
          (there (c.loop-inner.inner - 1) ∙ here) (c.in_ok-put_parameter.ensures text)
          (c.loop-inner.invariant.finds hs xs ps there h text);
    }
