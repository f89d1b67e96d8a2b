-- Ports, nets and variables that are added one behind the other mean what the definitions say of them.
use Rattle.std.specs.Prelude.{◌≡◌, refl, ℕ, List, [], ◌∷◌, ◌++◌, map, Bool, true, false, ◌&&◌, ◌||◌, is_none}
use Rattle.std.specs.Prelude.{bytes_eq, find, ℤ, pos, Option, Some, None, if◌then◌else◌, option_to_list}
use Rattle.std.proofs.Common.{ap, sym, ◌∙◌, subst}
use Rattle.std.proofs.lemmas.List.{append_assoc, append-nil}
use Rattle.std.proofs.lemmas.Slice.Eq.{bytes_eq-Decides}
use Rattle.vl_tree.specs.declared.declaration.DeclaredName.{DeclaredName}
use Rattle.vl_tree.specs.declared.declaration.Shape.{Shape}
use Rattle.vl_size.specs.declared.decl.Class.{Class}
use Rattle.vl_size.specs.declared.decl.Decl.{Decl}
use Rattle.vl_size.specs.Table.{declared_as}
use Rattle.vl_mean.specs.Scopes.{Scope}
use Rattle.vl_elab_spec.specs.declared.role.Role.{Role}
use Rattle.vl_elab_spec.specs.Meanings.{Meaning, undeclared, constant, loop_variable, object, faulty, shapeless, later}
use Rattle.vl_elab_spec.specs.Meanings.{Names, is_undeclared, meaning_of, object_or}
use Rattle.vl_elab_scope.specs.Seen.{IsNamed, AreNamed, with_name}
use Rattle.vl_elab_decls.specs.Objects.{with_genvars}
use Rattle.vl_elab_decls.specs.Shaped.{AreShaped}
use Rattle.vl_elab_params.proofs.Listed.{inner_or, named_only, meaning_append, named_append, meaning_with, named_with}

-- ---- declarations by name

found_named : (ds : List Decl) (text : List ℕ) (d : Decl) → declared_as ds text ≡ Some d → d.name ≡ text
found_named [] text d h = cc
found_named (e ∷ ds) text d h = by (bytes_eq text e.name) refl h (found_named ds text d)
  where
    or : Option Decl → Decl
    or None = d
    or (Some x) = x

    by : (b : Bool) → bytes_eq text e.name ≡ b → (if b then Some e else declared_as ds text) ≡ Some d
        → (declared_as ds text ≡ Some d → d.name ≡ text) → d.name ≡ text
    by true k h f = ap (λ o. (or o).name) (sym h) ∙ sym ((bytes_eq-Decides text e.name).0 k)
    by false k h f = f h

fresh_found : (ds es : List Decl) (d : Decl) → declared_as ds d.name ≡ None
    → declared_as (ds ++ d ∷ es) d.name ≡ Some d
fresh_found [] es d h = ap (λ b. if b then Some d else declared_as es d.name) ((bytes_eq-Decides d.name d.name).1 refl)
fresh_found (e ∷ ds) es d h = by (bytes_eq d.name e.name) h (fresh_found ds es d)
  where
    by : (b : Bool) → (if b then Some e else declared_as ds d.name) ≡ None
        → (declared_as ds d.name ≡ None → declared_as (ds ++ d ∷ es) d.name ≡ Some d)
        → (if b then Some e else declared_as (ds ++ d ∷ es) d.name) ≡ Some d
    by true h f = cc
    by false h f = f h

-- one more
none_more : (ds : List Decl) (d : Decl) (text : List ℕ) → declared_as ds text ≡ None → bytes_eq text d.name ≡ false
    → declared_as (ds ++ d ∷ []) text ≡ None
none_more [] d text h k = ap (λ b. if b then Some d else None) k
none_more (e ∷ ds) d text h k = by (bytes_eq text e.name) h (λ h. none_more ds d text h k)
  where
    by : (b : Bool) → (if b then Some e else declared_as ds text) ≡ None
        → (declared_as ds text ≡ None → declared_as (ds ++ d ∷ []) text ≡ None)
        → (if b then Some e else declared_as (ds ++ d ∷ []) text) ≡ None
    by true h f = cc
    by false h f = f h

pub or_named : (known : Bool) (o : Option Decl) (text : List ℕ) (role : Role) (scalar : Bool)
    → ((d : Decl) → o ≡ Some d → d.name ≡ text) → IsNamed (text, object_or known o role scalar)
or_named true None text role scalar h = tt
or_named true (Some d) text role scalar h = h d refl
or_named false None text role scalar h = tt
or_named false (Some d) text role scalar h = tt

or_there : (known : Bool) (o : Option Decl) (role : Role) (scalar : Bool)
    → is_undeclared (object_or known o role scalar) ≡ false
or_there true None role scalar = refl
or_there true (Some d) role scalar = refl
or_there false None role scalar = refl
or_there false (Some d) role scalar = refl

-- what is undeclared where both lists leave it so
both_undeclared : (a b : Meaning) → is_undeclared (inner_or a b) ≡ true
    → (is_undeclared a ≡ true) × (is_undeclared b ≡ true)
both_undeclared undeclared b h = (refl, h)
both_undeclared (constant c selected) b h = cc
both_undeclared loop_variable b h = cc
both_undeclared (object d role scalar) b h = cc
both_undeclared faulty b h = cc
both_undeclared shapeless b h = cc
both_undeclared later b h = cc

not_named : (b : Bool) (m : Meaning) → is_undeclared m ≡ false → is_undeclared (if b then m else undeclared) ≡ true
    → b ≡ false
not_named true m h k = cc
not_named false m h k = refl

module _ (s : Scope) where
  pub none_shaped : AreShaped [] [] []
  none_shaped = record { named = tt; also_named = tt; meaning = λ text. refl; rest = λ text h. refl }

  module _ (l m : Names) (before : List Decl) (h : AreShaped l m before) where
    -- a name more, which means the same where nothing before it declares it
    module _ (text : List ℕ) (kept meant : Meaning) (named : IsNamed (text, kept)) (also_named : IsNamed (text, meant))
        (same : is_undeclared (meaning_of m text) ≡ true → kept ≡ meant) where
      more_meaning : (other : List ℕ)
          → meaning_of (with_name l text kept) other ≡ meaning_of (m ++ (text, meant) ∷ []) other
      more_meaning other =
          meaning_with l text kept h.named other
          ∙ ap (λ n. inner_or n (named_only text kept other)) (h.meaning other)
          ∙ by (bytes_eq other text) refl (is_undeclared (meaning_of m other)) refl
          ∙ sym (meaning_append m ((text, meant) ∷ []) h.also_named other)
        where
          by : (b : Bool) → bytes_eq other text ≡ b → (t : Bool) → is_undeclared (meaning_of m other) ≡ t
              → (if t then (if b then kept else undeclared) else meaning_of m other)
              ≡ (if t then (if b then meant else undeclared) else meaning_of m other)
          by true e true k =
              same (ap (λ t. is_undeclared (meaning_of m t)) (sym ((bytes_eq-Decides other text).0 e)) ∙ k)
          by true e false k = refl
          by false e true k = refl
          by false e false k = refl

      rest_of : (other : List ℕ) → is_undeclared (meaning_of (m ++ (text, meant) ∷ []) other) ≡ true
          → (is_undeclared (meaning_of m other) ≡ true)
          × (is_undeclared (named_only text meant other) ≡ true)
      rest_of other k =
          both_undeclared (meaning_of m other) (named_only text meant other)
          (ap is_undeclared (sym (meaning_append m ((text, meant) ∷ []) h.also_named other)) ∙ k)

      -- which isn't that of a net or a variable
      pub loop_shaped : AreShaped (with_name l text kept) (m ++ (text, meant) ∷ []) before
      loop_shaped = record {
        named = named_with l text kept h.named named;
        also_named = named_append m ((text, meant) ∷ []) h.also_named (also_named, tt);
        meaning = more_meaning;
        rest = λ other k. h.rest other (rest_of other k).0;
      }

      -- which this declares
      pub decl_shaped : (d : Decl) → d.name ≡ text → is_undeclared meant ≡ false
          → AreShaped (with_name l text kept) (m ++ (text, meant) ∷ []) (before ++ d ∷ [])
      decl_shaped d e there = record {
        named = named_with l text kept h.named named;
        also_named = named_append m ((text, meant) ∷ []) h.also_named (also_named, tt);
        meaning = more_meaning;
        rest = λ other k.
            none_more before d other (h.rest other (rest_of other k).0) (ap (bytes_eq other) e
            ∙ not_named (bytes_eq other text) meant there (rest_of other k).1);
      }

    -- a net or a variable
    pub object_shaped : (text : List ℕ) (d : Decl) → d.name ≡ text → (more : List Decl) (kept : Meaning)
        (known : Bool) (role : Role) (scalar : Bool) → s.decls ≡ before ++ d ∷ more → IsNamed (text, kept)
        → kept ≡ object_or known (Some d) role scalar
        → AreShaped (with_name l text kept)
        (m ++ (text, object_or known (declared_as s.decls text) role scalar) ∷ []) (before ++ d ∷ [])
    object_shaped text d is more kept known role scalar e named same =
        let found = declared_as s.decls text in
        let fresh : declared_as before text ≡ None → declared_as (before ++ d ∷ more) text ≡ Some d =
        subst (λ t. declared_as before t ≡ None → declared_as (before ++ d ∷ more) t ≡ Some d) is
        (fresh_found before more d) in
        decl_shaped text kept (object_or known found role scalar) named
        (or_named known found text role scalar (found_named s.decls text))
        (λ k. same ∙ ap (λ o. object_or known o role scalar)
        (sym (ap (λ ds. declared_as ds text) e ∙ fresh (h.rest text k)))) d is
        (or_there known found role scalar)

  pub shaped_to : (l m n : Names) (before after : List Decl) → m ≡ n → before ≡ after → AreShaped l m before
      → AreShaped l n after
  shaped_to l m n before after e f h = subst (λ n. AreShaped l n after) e (subst (λ b. AreShaped l m b) f h)

  pub genvars_shaped : (texts : List (List ℕ)) (l m : Names) (before : List Decl) → AreShaped l m before
      → AreShaped (with_genvars l texts) (m ++ map (λ text. (text, loop_variable)) texts) before
  genvars_shaped [] l m before h = shaped_to l m _ before before (sym (append-nil m)) refl h
  genvars_shaped (text ∷ texts) l m before h =
      shaped_to (with_genvars l (text ∷ texts)) _ _ before before
      (append_assoc m ((text, loop_variable) ∷ []) (map (λ text. (text, loop_variable)) texts)) refl
      (genvars_shaped texts (with_name l text loop_variable) (m ++ (text, loop_variable) ∷ []) before
      (loop_shaped l m before h text loop_variable loop_variable tt tt (λ k. refl)))
