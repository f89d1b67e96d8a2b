-- The scopes around stay, where parameters are entered.
use Rattle.std.specs.Prelude.{◌≡◌, refl, ℕ, List, [], ◌∷◌, drop, Option}
use Rattle.std.proofs.Common.{ap, ◌∙◌}
use Rattle.vl_tree.specs.declared.declaration.Parameter.{Parameter}
use Rattle.vl_tree.specs.declared.declaration.ParameterKind.TheVariants as k
use Rattle.vl_tree.specs.Expr.{Expr}
use Rattle.vl_tree.specs.Item.{
  Item,
  Items,
  declaration,
  integer,
  genvar,
  parameter,
  assign,
  always,
  initial,
  instance,
  generate,
  for_loop,
  if_only,
  if_else,
  no_items,
  more_items,
}
use Rattle.vl_elab_spec.specs.Meanings.{Names}
use Rattle.vl_elab_scope.specs.Seen.{innermost}
use Rattle.vl_elab_params.specs.Entered.{Stacks, stacks, with_parameter, with_parameters, none_given, with_item}
use Rattle.vl_elab_params.specs.Entered.{with_items}
use Rattle.vl_elab_params.specs.Entered.{entered}
use Rattle.vl_elab_const.specs.declared.given.Value.{Value}

-- ---- the scopes around stay

abbrev outer_names : Stacks → List Names
outer_names s = drop 1 s.names

abbrev outer_numbers : Stacks → List Names
outer_numbers s = drop 1 s.numbers

parameters_names : (given : List ℕ → Option Value) (s : Stacks) (xs : List Parameter)
    → outer_names (with_parameters given s xs) ≡ outer_names s
parameters_names given s [] = refl
parameters_names given s (x ∷ xs) = parameters_names given (with_parameter given s x) xs

parameters_numbers : (given : List ℕ → Option Value) (s : Stacks) (xs : List Parameter)
    → outer_numbers (with_parameters given s xs) ≡ outer_numbers s
parameters_numbers given s [] = refl
parameters_numbers given s (x ∷ xs) = parameters_numbers given (with_parameter given s x) xs

module _ (given : List ℕ → Option Value) where
  item_names : (s : Stacks) (x : Item) → outer_names (with_item given s x) ≡ outer_names s
  item_names s (parameter attrs p k.Parameter xs) = parameters_names given s xs
  item_names s (parameter attrs p k.Localparam xs) = parameters_names none_given s xs
  item_names s (declaration attrs p x) = refl
  item_names s (integer attrs p xs) = refl
  item_names s (genvar attrs p xs) = refl
  item_names s (assign attrs p xs) = refl
  item_names s (always attrs p event x) = refl
  item_names s (initial attrs p x) = refl
  item_names s (instance attrs p x) = refl
  item_names s (generate attrs p mark) = refl
  item_names s (for_loop attrs p head b) = refl
  item_names s (if_only attrs p x b) = refl
  item_names s (if_else attrs p x b b') = refl

  item_numbers : (s : Stacks) (x : Item) → outer_numbers (with_item given s x) ≡ outer_numbers s
  item_numbers s (parameter attrs p k.Parameter xs) = parameters_numbers given s xs
  item_numbers s (parameter attrs p k.Localparam xs) = parameters_numbers none_given s xs
  item_numbers s (declaration attrs p x) = refl
  item_numbers s (integer attrs p xs) = refl
  item_numbers s (genvar attrs p xs) = refl
  item_numbers s (assign attrs p xs) = refl
  item_numbers s (always attrs p event x) = refl
  item_numbers s (initial attrs p x) = refl
  item_numbers s (instance attrs p x) = refl
  item_numbers s (generate attrs p mark) = refl
  item_numbers s (for_loop attrs p head b) = refl
  item_numbers s (if_only attrs p x b) = refl
  item_numbers s (if_else attrs p x b b') = refl

  items_names : (s : Stacks) (xs : Items) → outer_names (with_items given s xs) ≡ outer_names s
  items_names s no_items = refl
  items_names s (more_items x xs) = items_names (with_item given s x) xs ∙ item_names s x

  items_numbers : (s : Stacks) (xs : Items) → outer_numbers (with_items given s xs) ≡ outer_numbers s
  items_numbers s no_items = refl
  items_numbers s (more_items x xs) = items_numbers (with_item given s x) xs ∙ item_numbers s x

drop_two : (ns : List Names) → drop 2 ns ≡ drop 1 (drop 1 ns)
drop_two [] = refl
drop_two (n ∷ ns) = refl

module _ (given : List ℕ → Option Value) (parameters : List Parameter) (all : Items) (behind : Names)
    (around beneath : List Names) where
  pub entered_around : (names numbers : List Names)
      → stacks names numbers ≡ entered given parameters all behind around beneath → drop 2 names ≡ around
  entered_around names numbers e =
      drop_two names
      ∙ ap (drop 1) (ap outer_names e ∙ items_names given _ all ∙ parameters_names given _ parameters)

  pub entered_behind : (names numbers : List Names)
      → stacks names numbers ≡ entered given parameters all behind around beneath → innermost (drop 1 names) ≡ behind
  entered_behind names numbers e =
      ap innermost (ap outer_names e ∙ items_names given _ all ∙ parameters_names given _ parameters)

  pub entered_beneath : (names numbers : List Names)
      → stacks names numbers ≡ entered given parameters all behind around beneath → drop 1 numbers ≡ beneath
  entered_beneath names numbers e =
      ap outer_numbers e ∙ items_numbers given _ all ∙ parameters_numbers given _ parameters
