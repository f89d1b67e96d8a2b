use Rattle.std.proofs.Common.{◌≡◌, ◌≤◌, ◌∙◌, ◌+◌, ◌-◌, ◌∷◌, ap, sym, arith, length}
use Rattle.std.specs.Prelude.{drop}
use Rattle.std.proofs.lemmas.Grind.{common_steps}
use Rattle.vl_mean.specs.Declarations.{class_of_attributes, joined_attributes}
use Rattle.vl_elab_decls.proofs.ClassLemmas.{class_append}
use Rattle.vl_elab_decls.proofs.words.class_of_attributes.Goals as goal

pub loop-place-preserved : goal.loop-place-preserved
loop-place-preserved c =
    let all = c.args.all.now in
    let item = c.index-all-place.result in
    let next : c.loop-place.place - 1 + 1 ≡ c.loop-place.place = omega arith in
    let front : drop (c.loop-place.place - 1) c.args.all.now ≡ c.index-all-place.result
    ∷ drop (c.loop-place.place - 1 + 1) c.args.all.now = grind (arith, common_steps) in
    record {
      within = omega arith;
      class =
          c.class_of_instance-class.ensures
          ∙ (λ i. class_of_attributes (c.loop-place.invariant.class i) (c.as_slice.ensures i))
          ∙ ap (λ x. class_of_attributes (class_of_attributes c.args.class
          (joined_attributes (drop c.loop-place.place all))) x.attributes) (sym c.index-all-place.is)
          ∙ class_append c.args.class item.attributes (joined_attributes (drop c.loop-place.place all))
          ∙ ap (λ xs. class_of_attributes c.args.class (joined_attributes xs))
          (sym (front ∙ ap (λ n. item ∷ drop n all) next));
    }
