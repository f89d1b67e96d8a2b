-- Names that are passed one behind the other.
use Rattle.std.specs.Prelude.{◌≡◌, refl, ℕ, List, [], ◌∷◌, ◌++◌}
use Rattle.std.proofs.Common.{ap, sym, ◌∙◌}
use Rattle.vl_tree.specs.Item.{
  Item,
  Items,
  declaration,
  integer,
  genvar,
  parameter,
  assign,
  always,
  initial,
  instance,
  generate,
  for_loop,
  if_only,
  if_else,
  more_items,
}
use Rattle.vl_elab_spec.specs.Meanings.{Names, parameters_of}
use Rattle.vl_elab_params.specs.Passed.{with_passed, with_all_passed, item_parameters}

-- the parameters of one item, and those behind it
pub parameters_first : (x : Item) (xs : Items)
    → parameters_of (more_items x xs) ≡ item_parameters x ++ parameters_of xs
parameters_first (declaration attrs p d) xs = refl
parameters_first (integer attrs p names) xs = refl
parameters_first (genvar attrs p names) xs = refl
parameters_first (parameter attrs p kind ps) xs = refl
parameters_first (assign attrs p all) xs = refl
parameters_first (always attrs p event s) xs = refl
parameters_first (initial attrs p s) xs = refl
parameters_first (instance attrs p x) xs = refl
parameters_first (generate attrs p mark) xs = refl
parameters_first (for_loop attrs p head b) xs = refl
parameters_first (if_only attrs p c b) xs = refl
parameters_first (if_else attrs p c b d) xs = refl

module _ (pending : Names) (known : List Names) where
  passed_append : (passed : Names) (xs ys : List (List ℕ))
      → with_all_passed pending known passed (xs ++ ys)
      ≡ with_all_passed pending known (with_all_passed pending known passed xs) ys
  passed_append passed [] ys = refl
  passed_append passed (x ∷ xs) ys = passed_append (with_passed pending known passed x) xs ys

  pub passed_two : (old between new : Names) (xs ys : List (List ℕ))
      → between ≡ with_all_passed pending known old xs → new ≡ with_all_passed pending known between ys
      → new ≡ with_all_passed pending known old (xs ++ ys)
  passed_two old between new xs ys h k =
      k ∙ ap (λ l. with_all_passed pending known l ys) h ∙ sym (passed_append old xs ys)

pub ruleset passed_twice = (passed_two)
