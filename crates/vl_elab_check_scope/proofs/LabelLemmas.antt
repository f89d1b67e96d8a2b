-- Labels of the blocks of a construct.
use Rattle.std.specs.Prelude.{◌≡◌, refl, ℕ, List, [], ◌∷◌, ◌++◌, Bool, Option}
use Rattle.std.proofs.Common.{ap, sym, ◌∙◌, append_assoc}
use Rattle.fv_text.specs.declared.pos.Pos.{Pos}
use Rattle.vl_mean.specs.Cells.{contains_name}
use Rattle.vl_elab_spec.specs.declared.elab_fault.ElabFault.{ElabFault}
use Rattle.vl_elab_spec.specs.declared.elab_fault.ElabFault.TheVariants as f
use Rattle.vl_elab_spec.specs.Expressions.{refused_if}
use Rattle.vl_elab_spec.specs.Items.{labels_twice}
use Rattle.vl_elab_spec.specs.Refused.{lower_of, lowest}
use Rattle.vl_elab_check_expr.proofs.Lowest.{lowest_two}
use Rattle.vl_elab_check_scope.specs.Parts.{labels_by, with_name, with_names}

module _ (g : List ℕ → Bool) where
  labels_append : (xs ys : List (List ℕ × Pos)) → labels_by g (xs ++ ys) ≡ labels_by g xs ++ labels_by g ys
  labels_append [] ys = refl
  labels_append (x ∷ xs) ys =
      ap (λ gs. refused_if (g x.0) (f.Twice x.0 x.1) ++ gs) (labels_append xs ys)
      ∙ sym (append_assoc (refused_if (g x.0) (f.Twice x.0 x.1)) (labels_by g xs) (labels_by g ys))

  pub labels_two : (xs ys : List (List ℕ × Pos)) (a b : Option ElabFault) → a ≡ lowest (labels_by g xs)
      → b ≡ lowest (labels_by g ys) → lower_of a b ≡ lowest (labels_by g (xs ++ ys))
  labels_two xs ys a b h k =
      lowest_two (labels_by g xs) (labels_by g ys) a b h k ∙ ap lowest (sym (labels_append xs ys))

pub ruleset two = (labels_two)

pub same_labels : (g : List ℕ → Bool) (names : List (List ℕ)) → ((text : List ℕ) → g text ≡ contains_name names text)
    → (xs : List (List ℕ × Pos)) → labels_by g xs ≡ labels_twice names xs
same_labels g names h [] = refl
same_labels g names h (x ∷ xs) = λ i. refused_if (h x.0 i) (f.Twice x.0 x.1) ++ same_labels g names h xs i

names_append : (g : List ℕ → Bool) (xs ys : List (List ℕ)) → with_names g (xs ++ ys) ≡ with_names (with_names g xs) ys
names_append g [] ys = refl
names_append g (x ∷ xs) ys = names_append (with_name g x) xs ys

pub added_two : (g g' : List ℕ → Bool) (xs ys : List (List ℕ)) (all : List ℕ → Bool) → g' ≡ with_names g xs
    → all ≡ with_names g' ys → all ≡ with_names g (xs ++ ys)
added_two g g' xs ys all h k = k ∙ ap (λ b. with_names b ys) h ∙ sym (names_append g xs ys)

pub ruleset added = (added_two)
