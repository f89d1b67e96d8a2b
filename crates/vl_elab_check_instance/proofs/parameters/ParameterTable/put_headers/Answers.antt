use Rattle.std.proofs.Common.{◌≡◌, ◌∙◌, ◌+◌, ◌-◌, ◌++◌, ◌∷◌, ap, arith}
use Rattle.std.specs.Prelude.{drop, slice_get, Some}
use Rattle.std.proofs.lemmas.Grind.{common_steps}
use Rattle.vl_tree.specs.Item.{items}
use Rattle.vl_mean.specs.Declarations.{header_parameters}
use Rattle.vl_elab_spec.specs.Items.{items_parameters}
use Rattle.vl_elab_check_instance.specs.declared.parameters.Spot.TheVariants as s
use Rattle.vl_elab_check_instance.specs.Parameters.{spot_in, header_in}
use Rattle.vl_elab_check_instance.proofs.Found.{found_put, at_front}
use Rattle.vl_elab_check_instance.proofs.parameters.ParameterTable.put_headers.Goals as goal

pub loop-place-preserved : goal.loop-place-preserved
loop-place-preserved c =
    let hs = c.args.headers.now in
    let xs = c.args.all.now in
    let own = items_parameters (items c.args.all.now) in
    let x = c.index-headers-place.result in
    let next : c.loop-place.place - 1 + 1 ≡ c.loop-place.place = omega arith in
    let front : drop (c.loop-place.place - 1) c.args.headers.now ≡ c.index-headers-place.result
    ∷ drop (c.loop-place.place - 1 + 1) c.args.headers.now = grind (arith, common_steps) in
    let here : slice_get c.args.headers.now (c.loop-place.place - 1) ≡ Some c.index-headers-place.result =
    at_front c.args.headers.now (c.loop-place.place - 1) c.index-headers-place.result
    (drop (c.loop-place.place - 1 + 1) c.args.headers.now) front in
    record {
      within = omega arith;
      finds = λ text.
          found_put hs xs (spot_in c.loop-place.self) (spot_in c.put_header.new.self)
          (s.Header (c.loop-place.place - 1)) x.parameter (header_parameters (drop c.loop-place.place hs) ++ own)
          (header_parameters (drop (c.loop-place.place - 1) hs) ++ own) text
          (ap (λ l. header_parameters l ++ own) (front ∙ ap (λ n. x ∷ drop n hs) next))
          (ap header_in here) (c.in_ok-put_header.ensures text) (c.loop-place.invariant.finds text);
    }
