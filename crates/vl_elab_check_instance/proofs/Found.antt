-- Parameters that are found by their names.
use Rattle.std.specs.Prelude.{◌≡◌, refl, ℕ, List, [], ◌∷◌, ◌++◌, Bool, true, false, bytes_eq, slice_get}
use Rattle.std.specs.Prelude.{Option, Some, None, if◌then◌else◌, zero, suc, drop}
use Rattle.std.proofs.Common.{ap, sym, ◌∙◌, subst}
use Rattle.vl_tree.specs.declared.declaration.HeaderParameter.{HeaderParameter}
use Rattle.vl_tree.specs.declared.declaration.Parameter.{Parameter}
use Rattle.vl_tree.specs.declared.declaration.ParameterKind.TheVariants as k
use Rattle.vl_tree.specs.Item.{
  Item,
  Items,
  declaration,
  integer,
  genvar,
  parameter,
  assign,
  always,
  initial,
  instance,
  generate,
  for_loop,
  if_only,
  if_else,
  more_items,
}
use Rattle.fv_text.proofs.Lookups.{bytes_eq-swap}
use Rattle.vl_elab_spec.specs.Items.{items_parameters, parameter_named}
use Rattle.vl_elab_check_instance.specs.declared.parameters.ParameterTable.{ParameterTable}
use Rattle.vl_elab_check_instance.specs.declared.parameters.Spot.{Spot}
use Rattle.vl_elab_check_instance.specs.declared.parameters.Spot.TheVariants as s
use Rattle.vl_elab_check_instance.specs.Parameters.{parameter_at, parameter_in, found_at, given_of}
use Rattle.vl_elab_check_instance.specs.Parameters.{AreParameters}

-- what stands first of those that are left
pub at_front : {A : Type 0} (xs : List A) (n : ℕ) (x : A) (rest : List A) → drop n xs ≡ x ∷ rest
    → slice_get xs n ≡ Some x
at_front [] zero x rest e = cc
at_front [] (suc n) x rest e = cc
at_front (y ∷ xs) zero x rest e = ap (λ l. slice_get l 0) e
at_front (y ∷ xs) (suc n) x rest e = at_front xs n x rest e

-- the parameters of one item more
pub items_given : (x : Item) (more : Items) → given_of x ++ items_parameters more ≡ items_parameters (more_items x more)
items_given (declaration attrs p d) more = refl
items_given (integer attrs p xs) more = refl
items_given (genvar attrs p xs) more = refl
items_given (parameter attrs p k.Parameter xs) more = refl
items_given (parameter attrs p k.Localparam xs) more = refl
items_given (assign attrs p xs) more = refl
items_given (always attrs p event x) more = refl
items_given (initial attrs p x) more = refl
items_given (instance attrs p x) more = refl
items_given (generate attrs p mark) more = refl
items_given (for_loop attrs p head b) more = refl
items_given (if_only attrs p c b) more = refl
items_given (if_else attrs p c b d) more = refl

module _ (hs : List HeaderParameter) (xs : List Item) where
  -- one parameter before others
  pub found_put : (old new : List ℕ → Option Spot) (spot : Spot) (x : Parameter) (ps all : List Parameter)
      (text : List ℕ) → all ≡ x ∷ ps → parameter_at hs xs spot ≡ Some x
      → new text ≡ (if bytes_eq x.name text then Some spot else old text)
      → found_at hs xs (old text) ≡ parameter_named ps text
      → found_at hs xs (new text) ≡ parameter_named all text
  found_put old new spot x ps all text front there e h =
      ap (found_at hs xs) e ∙ by (bytes_eq x.name text) (bytes_eq text x.name) (bytes_eq-swap x.name text)
      ∙ ap (λ qs. parameter_named qs text) (sym front)
    where
      by : (a b : Bool) → a ≡ b → found_at hs xs (if a then Some spot else old text)
          ≡ (if b then Some x else parameter_named ps text)
      by true true k = there
      by true false k = cc
      by false true k = cc
      by false false k = h

  -- a parameter by its name
  pub found_here : (spots : List ℕ → Option Spot) (ps : List Parameter) (text key : List ℕ) (o : Option Spot)
      (r : Option Parameter) → ((text : List ℕ) → found_at hs xs (spots text) ≡ parameter_named ps text)
      → key ≡ text → o ≡ spots key → r ≡ found_at hs xs o → r ≡ parameter_named ps text
  found_here spots ps text key o r h k e f = f ∙ ap (found_at hs xs) (e ∙ ap spots k) ∙ h text

  -- where nothing stands
  pub nothing_found : (o : Option Spot) (ps : List Parameter) (text : List ℕ) → o ≡ None → ps ≡ []
      → found_at hs xs o ≡ parameter_named ps text
  nothing_found o ps text e f = ap (found_at hs xs) e ∙ ap (λ qs. parameter_named qs text) (sym f)

-- the parameters of an item that stands there
pub item_there : (hs : List HeaderParameter) (xs : List Item) (place : ℕ) (x : Item) (ps : List Parameter)
    → slice_get xs place ≡ Some x → ((i : ℕ) → parameter_in (Some x) i ≡ slice_get ps i)
    → (i : ℕ) → parameter_at hs xs (s.Item place i) ≡ slice_get ps i
item_there hs xs place x ps e h i = ap (λ o. parameter_in o i) e ∙ h i

pub other_lists : (table : ParameterTable) (hs gs : List HeaderParameter) (xs ys : List Item) → hs ≡ gs → xs ≡ ys
    → AreParameters table gs ys → AreParameters table hs xs
other_lists table hs gs xs ys e f h =
    subst (λ hs. AreParameters table hs xs) (sym e) (subst (λ xs. AreParameters table gs xs) (sym f) h)
