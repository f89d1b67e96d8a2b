use Rattle.std.proofs.Common.{◌≡◌, ◌∙◌, ◌+◌, ◌-◌, ◌∷◌, ap, sym, subst, arith}
use Rattle.std.specs.Prelude.{drop, slice_get, Some}
use Rattle.std.proofs.lemmas.Grind.{common_steps}
use Rattle.vl_tree.specs.Item.{items}
use Rattle.vl_elab_spec.specs.Items.{items_parameters}
use Rattle.vl_elab_check_instance.specs.Parameters.{Finds}
use Rattle.vl_elab_check_instance.proofs.Found.{items_given, at_front}
use Rattle.vl_elab_check_instance.proofs.parameters.ParameterTable.put_items.Goals as goal

pub loop-place-preserved : goal.loop-place-preserved
loop-place-preserved c =
    let all = c.args.all.now in
    let x = c.index-all-place.result in
    let next : c.loop-place.place - 1 + 1 ≡ c.loop-place.place = omega arith in
    let front : drop (c.loop-place.place - 1) c.args.all.now ≡ c.index-all-place.result
    ∷ drop (c.loop-place.place - 1 + 1) c.args.all.now = grind (arith, common_steps) in
    let here : slice_get c.args.all.now (c.loop-place.place - 1) ≡ Some c.index-all-place.result =
    at_front c.args.all.now (c.loop-place.place - 1) c.index-all-place.result
    (drop (c.loop-place.place - 1 + 1) c.args.all.now) front in
    record {
      within = omega arith;
      finds =
          subst (Finds c.put_item.new.self c.args.headers.now all)
          (items_given x (items (drop c.loop-place.place all))
          ∙ ap (λ l. items_parameters (items l)) (sym (front ∙ ap (λ n. x ∷ drop n all) next)))
          (c.in_ok-put_item.ensures c.args.headers.now all (items_parameters (items (drop c.loop-place.place all)))
          here c.loop-place.invariant.finds);
    }
