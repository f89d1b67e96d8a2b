-- The parameters of a scope among the names that it declares.
use Rattle.std.specs.Prelude.{◌≡◌, refl, ℕ, List, [], ◌∷◌, ◌++◌, map, Bool, true, false, ◌||◌, bytes_eq}
use Rattle.std.specs.Prelude.{Option, Some, None, if◌then◌else◌}
use Rattle.std.proofs.Common.{ap, sym, ◌∙◌, subst, append_assoc, append-nil}
use Rattle.std.proofs.lemmas.List.{map-append}
use Rattle.vl_tree.specs.declared.declaration.Parameter.{Parameter}
use Rattle.vl_tree.specs.declared.declaration.ParameterKind.TheVariants as k
use Rattle.vl_tree.specs.Item.{
  Items,
  declaration,
  integer,
  genvar,
  parameter,
  assign,
  always,
  initial,
  instance,
  generate,
  for_loop,
  if_only,
  if_else,
  no_items,
  more_items,
}
use Rattle.vl_mean.specs.declared.const_number.Const.{Const}
use Rattle.vl_mean.specs.Cells.{contains_name}
use Rattle.vl_mean.specs.Constants.{constant_of}
use Rattle.vl_mean.specs.Declarations.{Overrides}
use Rattle.vl_mean.specs.Scopes.{Scope}
use Rattle.vl_mean.specs.Walk.{Contents, parameter_names}
use Rattle.vl_elab_spec.specs.Meanings as m
use Rattle.vl_elab_spec.specs.Meanings.{Meaning, constant, faulty}
use Rattle.vl_elab_spec.specs.Meanings.{Names, meaning_of, all_later, constant_or, may_be_selected, scope_meanings}
use Rattle.vl_elab_spec.specs.Meanings.{with_parameter_meanings, with_item_constants, parameters_of}
use Rattle.vl_elab_spec.specs.Meanings.{port_meanings, items_meanings, scope_parameters}

abbrev pub is_parameter : Meaning → Bool
is_parameter (constant c selected) = true
is_parameter faulty = true
is_parameter n = false

-- each of them is a parameter
abbrev pub AllParameters : Names → Type 0
AllParameters [] = Unit {0}
AllParameters (n ∷ ns) = (is_parameter n.1 ≡ true) × AllParameters ns

abbrev pub texts : Names → List (List ℕ)
texts ns = map (λ n. n.0) ns

-- the parameters of these names, in their order
pub record AreOf (ns : Names) (names : List (List ℕ)) : Type 0 where
  pub all : AllParameters ns
  pub named : texts ns ≡ names

more_parameters : (ns : Names) (n : List ℕ × Meaning) → AllParameters ns → is_parameter n.1 ≡ true
    → AllParameters (ns ++ n ∷ [])
more_parameters [] n h k = (k, tt)
more_parameters (x ∷ ns) n h k = (h.0, more_parameters ns n h.1 k)

one_more : (ns : Names) (names : List (List ℕ)) (text : List ℕ) (n : Meaning) → AreOf ns names
    → is_parameter n ≡ true → AreOf (ns ++ (text, n) ∷ []) (names ++ text ∷ [])
one_more ns names text n h k = record {
  all = more_parameters ns (text, n) h.all k;
  named = map-append (λ (x : List ℕ × Meaning). x.0) ns ((text, n) ∷ []) ∙ ap (λ l. l ++ text ∷ []) h.named;
}

or_faulty : (known : Bool) (o : Option Const) (selected : Bool) → is_parameter (constant_or known o selected) ≡ true
or_faulty true None selected = refl
or_faulty true (Some c) selected = refl
or_faulty false None selected = refl
or_faulty false (Some c) selected = refl

module _ (s : Scope) (outer : List Names) where
  of_parameters : (os : Overrides) (behind ns : Names) (names : List (List ℕ)) (xs : List Parameter) → AreOf ns names
      → AreOf (with_parameter_meanings s outer os behind ns xs) (names ++ parameter_names xs)
  of_parameters os behind ns names [] h = subst (AreOf ns) (sym (append-nil names)) h
  of_parameters os behind ns names (x ∷ xs) h =
      let around : List Names = (ns ++ behind) ∷ outer in
      let known = m.is_known_parameter os around x in
      let found = constant_of s.constants x.name in
      let selected = may_be_selected around x.shape.range in
      let n = constant_or known found selected in
      subst (AreOf (with_parameter_meanings s outer os behind (ns ++ (x.name, n) ∷ []) xs))
      (append_assoc names (x.name ∷ []) (parameter_names xs))
      (of_parameters os behind (ns ++ (x.name, n) ∷ []) (names ++ x.name ∷ []) xs
      (one_more ns names x.name n h (or_faulty known found selected)))

  of_items : (os : Overrides) (behind ns : Names) (names : List (List ℕ)) (xs : Items) → AreOf ns names
      → AreOf (with_item_constants s outer os behind ns xs) (names ++ parameters_of xs)
  of_items os behind ns names no_items h = subst (AreOf ns) (sym (append-nil names)) h
  of_items os behind ns names (more_items (parameter attrs p k.Parameter xs) more) h =
      let own = with_parameter_meanings s outer os behind ns xs in
      subst (AreOf (with_item_constants s outer os behind own more))
      (append_assoc names (parameter_names xs) (parameters_of more))
      (of_items os behind own (names ++ parameter_names xs) more (of_parameters os behind ns names xs h))
  of_items os behind ns names (more_items (parameter attrs p k.Localparam xs) more) h =
      let own = with_parameter_meanings s outer [] behind ns xs in
      subst (AreOf (with_item_constants s outer os behind own more))
      (append_assoc names (parameter_names xs) (parameters_of more))
      (of_items os behind own (names ++ parameter_names xs) more (of_parameters [] behind ns names xs h))
  of_items os behind ns names (more_items (declaration attrs p d) more) h = of_items os behind ns names more h
  of_items os behind ns names (more_items (integer attrs p xs) more) h = of_items os behind ns names more h
  of_items os behind ns names (more_items (genvar attrs p xs) more) h = of_items os behind ns names more h
  of_items os behind ns names (more_items (assign attrs p xs) more) h = of_items os behind ns names more h
  of_items os behind ns names (more_items (always attrs p e t) more) h = of_items os behind ns names more h
  of_items os behind ns names (more_items (initial attrs p t) more) h = of_items os behind ns names more h
  of_items os behind ns names (more_items (instance attrs p x) more) h = of_items os behind ns names more h
  of_items os behind ns names (more_items (generate attrs p mark) more) h = of_items os behind ns names more h
  of_items os behind ns names (more_items (for_loop attrs p head b) more) h = of_items os behind ns names more h
  of_items os behind ns names (more_items (if_only attrs p c b) more) h = of_items os behind ns names more h
  of_items os behind ns names (more_items (if_else attrs p c b d) more) h = of_items os behind ns names more h

  abbrev pub own_names : Contents → Names
  own_names c =
      with_item_constants s outer c.overrides (all_later c)
      (with_parameter_meanings s outer c.overrides (all_later c) [] c.parameters) c.items

  pub of_scope : (c : Contents) → AreOf (own_names c) (scope_parameters c)
  of_scope c =
      of_items c.overrides (all_later c) (with_parameter_meanings s outer c.overrides (all_later c) [] c.parameters)
      (parameter_names c.parameters) c.items
      (of_parameters c.overrides (all_later c) [] [] c.parameters (record { all = tt; named = refl }))

-- one of the names is a parameter
found_among : (ns : Names) → AllParameters ns → (text : List ℕ) → contains_name (texts ns) text ≡ true
    → is_parameter (meaning_of ns text) ≡ true
found_among [] h text e = cc
found_among (n ∷ ns) h text e = by (bytes_eq text n.0) (found_among ns h.1 text) e
  where
    by : (b : Bool) → (contains_name (texts ns) text ≡ true → is_parameter (meaning_of ns text) ≡ true)
        → (b || contains_name (texts ns) text) ≡ true
        → is_parameter (if b then n.1 else meaning_of ns text) ≡ true
    by true f e = h.0
    by false f e = f e

-- also before others
found_before : (ns ms : Names) (text : List ℕ) → is_parameter (meaning_of ns text) ≡ true
    → is_parameter (meaning_of (ns ++ ms) text) ≡ true
found_before [] ms text e = cc
found_before (n ∷ ns) ms text e = by (bytes_eq text n.0) (found_before ns ms text) e
  where
    by : (b : Bool)
        → (is_parameter (meaning_of ns text) ≡ true → is_parameter (meaning_of (ns ++ ms) text) ≡ true)
        → is_parameter (if b then n.1 else meaning_of ns text) ≡ true
        → is_parameter (if b then n.1 else meaning_of (ns ++ ms) text) ≡ true
    by true f e = e
    by false f e = f e

module _ (s : Scope) (before outer : List Names) (c : Contents) (text : List ℕ) where
  -- a parameter of the scope means a parameter in it
  pub parameter_found : contains_name (scope_parameters c) text ≡ true
      → is_parameter (meaning_of (scope_meanings s before outer c) text) ≡ true
  parameter_found e =
      let own = own_names s before c in
      let around : List Names = (own ++ all_later c) ∷ outer in
      let ports = port_meanings s outer around c.ports in
      let objects = items_meanings s outer around c.items in
      let values = map (λ (x : List ℕ × Const). (x.0, constant x.1 true)) s.constants in
      let h : AreOf own (scope_parameters c) = of_scope s before c in
      found_before (own ++ ports ++ objects) values text (found_before (own ++ ports) objects text
      (found_before own ports text
      (found_among own h.all text (ap (λ l. contains_name l text) h.named ∙ e))))
