-- What names mean in a scope that is entered.
use Rattle.std.specs.Prelude.{◌≡◌, refl, ℕ, List, [], ◌∷◌, ◌++◌, map, Bool, true, false, ◌&&◌, ◌||◌, bytes_eq}
use Rattle.std.specs.Prelude.{is_none, is_some, Option, Some, None, if◌then◌else◌}
use Rattle.std.proofs.Common.{ap, sym, ◌∙◌, subst}
use Rattle.std.proofs.lemmas.List.{append_assoc, append-nil}
use Rattle.vl_size.specs.declared.decl.Decl.{Decl}
use Rattle.vl_size.specs.Table.{declared_as, is_declared}
use Rattle.vl_size.proofs.Entries.{named_declared}
use Rattle.vl_mean.specs.declared.const_number.Const.{Const}
use Rattle.vl_mean.specs.Constants.{Constants, constant_of}
use Rattle.vl_mean.specs.Declarations.{with_constants}
use Rattle.vl_mean.specs.Scopes.{Scope, constant_in, constant_unless, visible, unless_constant, declared_in}
use Rattle.vl_mean.specs.Scopes.{is_clock_decl}
use Rattle.vl_mean.specs.Walk.{Contents, parameter_names, port_names}
use Rattle.vl_elab_spec.specs.Meanings.{Meaning, undeclared, constant, loop_variable, object, faulty, shapeless, later}
use Rattle.vl_elab_spec.specs.Meanings.{Names, is_undeclared, meaning_of, meaning_in, value_of, constants, all_later}
use Rattle.vl_elab_spec.specs.Meanings.{port_meanings, items_meanings, scope_meanings, items_names}
use Rattle.vl_elab_scope.specs.Seen.{AreNamed, AllNamed}
use Rattle.vl_elab_scope.specs.Alike.{Alike}
use Rattle.vl_elab_spec.specs.Among.{AreAmong}
use Rattle.vl_elab_const.specs.Numbers.{HaveNumbers}
use Rattle.vl_elab_params.specs.Among.{parameter_meanings, among_parameters}
use Rattle.vl_elab_params.specs.Own.{AreOwn}
use Rattle.vl_elab_params.proofs.LaterNames.{all_named}
use Rattle.vl_elab_params.proofs.Listed.{inner_or, inner_assoc, meaning_append, named_append}
use Rattle.vl_elab_decls.specs.Shaped.{AreShaped}
use Rattle.vl_elab_decls.specs.Stands.{Stands}
use Rattle.vl_elab_decls.proofs.Hiding.{Hides}
use Rattle.vl_elab_decls.proofs.Knows.{right_of, own_right, objects_no_value, constants_undeclared}

alone : (m : Meaning) → inner_or m undeclared ≡ m
alone undeclared = refl
alone (constant c selected) = refl
alone loop_variable = refl
alone (object d role scalar) = refl
alone faulty = refl
alone shapeless = refl
alone later = refl

behind_gone : (a b k : Meaning) → (is_undeclared a ≡ true → k ≡ undeclared) → inner_or (inner_or a b) k ≡ inner_or a b
behind_gone undeclared b k h = ap (inner_or b) (h refl) ∙ alone b
behind_gone (constant c selected) b k h = refl
behind_gone loop_variable b k h = refl
behind_gone (object d role scalar) b k h = refl
behind_gone faulty b k h = refl
behind_gone shapeless b k h = refl
behind_gone later b k h = refl

is_none_of : {A : Type 0} (o : Option A) → is_none o ≡ true → o ≡ None
is_none_of None h = refl
is_none_of (Some x) h = cc

constants_named : (cs : Constants) → AreNamed (map (λ x. (x.0, constant x.1 true)) cs)
constants_named [] = tt
constants_named (c ∷ cs) = (tt, constants_named cs)

not_declared : (ds : List Decl) (text : List ℕ) → declared_as ds text ≡ None → is_declared ds text ≡ false
not_declared ds text h = sym (named_declared ds text) ∙ ap is_some h

-- what is known of two, of which the second has no value
known_by : (a b d : Meaning) (c : Const) (all : Option Const) → value_of b ≡ None
    → (value_of a ≡ Some c → all ≡ Some c)
    → (is_undeclared a ≡ true → is_undeclared b ≡ true → value_of d ≡ Some c → all ≡ Some c)
    → value_of (inner_or (inner_or a b) d) ≡ Some c → all ≡ Some c
known_by undeclared undeclared d c all h f g e = g refl refl e
known_by undeclared (constant x selected) d c all h f g e = cc
known_by undeclared loop_variable d c all h f g e = cc
known_by undeclared (object x role scalar) d c all h f g e = cc
known_by undeclared faulty d c all h f g e = cc
known_by undeclared shapeless d c all h f g e = cc
known_by undeclared later d c all h f g e = cc
known_by (constant x selected) b d c all h f g e = f e
known_by loop_variable b d c all h f g e = cc
known_by (object x role scalar) b d c all h f g e = cc
known_by faulty b d c all h f g e = cc
known_by shapeless b d c all h f g e = cc
known_by later b d c all h f g e = cc

module _ (s : Scope) (before outer : List Names) (c : Contents) where
  abbrev around : List Names
  around = among_parameters s before outer c

  abbrev objects_meant : Names
  objects_meant = port_meanings s outer around c.ports ++ items_meanings s outer around c.items

  abbrev own_meant : Names
  own_meant = parameter_meanings s before c

  abbrev both_meant : Names
  both_meant = own_meant ++ port_meanings s outer around c.ports ++ items_meanings s outer around c.items

  abbrev scope_constants : Names
  scope_constants = map (λ x. (x.0, constant x.1 true)) s.constants

  module _ (own values rest : Names) (h : AreOwn own values own_meant s.constants)
      (r : AreShaped rest objects_meant s.decls) where
    both_are : own_meant ++ objects_meant ≡ both_meant
    both_are = sym (append_assoc own_meant (port_meanings s outer around c.ports) (items_meanings s outer around c.items))

    both_named : AreNamed both_meant
    both_named = subst AreNamed both_are (named_append own_meant objects_meant h.also_named r.also_named)

    both_meaning : (text : List ℕ)
        → meaning_of both_meant text ≡ inner_or (meaning_of own_meant text) (meaning_of objects_meant text)
    both_meaning text =
        ap (λ ns. meaning_of ns text) (sym both_are) ∙ meaning_append own_meant objects_meant h.also_named text

    no_constant : (text : List ℕ) → is_undeclared (meaning_of own_meant text) ≡ true
        → constant_of s.constants text ≡ None
    no_constant text k = is_none_of (constant_of s.constants text) (sym (h.there text) ∙ k)

    pub scope_meaning : (text : List ℕ)
        → meaning_of (scope_meanings s before outer c) text
        ≡ inner_or (meaning_of own_meant text) (meaning_of objects_meant text)
    scope_meaning text =
        meaning_append both_meant scope_constants both_named text
        ∙ ap (λ m. inner_or m (meaning_of scope_constants text)) (both_meaning text)
        ∙ behind_gone (meaning_of own_meant text) (meaning_of objects_meant text) (meaning_of scope_constants text)
        (λ k. constants_undeclared s.constants text (no_constant text k))

    module _ (names : List Names) (prior : Alike names outer) where
      pub scope_alike : Alike (own ∷ rest ∷ names) (scope_meanings s before outer c ∷ outer)
      scope_alike = record {
        named = (h.own_named, (r.named, prior.named));
        also_named =
            (named_append both_meant scope_constants both_named (constants_named s.constants), prior.also_named);
        meaning = λ text.
            (λ i. inner_or (h.meaning text i) (inner_or (r.meaning text i) (prior.meaning text i)))
            ∙ inner_assoc (meaning_of own_meant text) (meaning_of objects_meant text) (meaning_in outer text)
            ∙ ap (λ m. inner_or m (meaning_in outer text)) (sym (scope_meaning text));
      }

    module _ (ss : List Scope) (among : AreAmong (constants outer) (constant_in ss)) where
      pub scope_among : AreAmong (constants (scope_meanings s before outer c ∷ outer)) (constant_in (s ∷ ss))
      scope_among text k e =
          known_by (meaning_of own_meant text) (meaning_of objects_meant text) (meaning_in outer text) k
          (constant_in (s ∷ ss) text) (objects_no_value s outer around c.ports c.items text)
          (λ f. ap (λ o. constant_unless o (is_declared s.decls text) (constant_in ss text))
          (right_of s own_meant (own_right s before (all_later c) c.overrides c.parameters c.items) text k f))
          (λ a b f.
          (λ i. constant_unless (no_constant text a i)
          (not_declared s.decls text (r.rest text b) i) (constant_in ss text)) ∙ among text k f)
          (ap (λ m. value_of (inner_or m (meaning_in outer text))) (sym (scope_meaning text)) ∙ e)

  -- where shapes are read: of its own names the parameters are known alone
  module _ (own values : Names) (h : AreOwn own values own_meant s.constants) (ss : List Scope)
      (among : AreAmong (constants outer) (constant_in ss)) where
    later_value : (texts : List (List ℕ)) (text : List ℕ)
        → value_of (meaning_of (map (λ text. (text, later)) texts) text) ≡ None
    later_value [] text = refl
    later_value (x ∷ xs) text = by (bytes_eq text x) (later_value xs text)
      where
        by : (b : Bool) → value_of (meaning_of (map (λ text. (text, later)) xs) text) ≡ None
            → value_of (if b then later else meaning_of (map (λ text. (text, later)) xs) text) ≡ None
        by true h = refl
        by false h = h

    pub shapes_among : AreAmong (constants around) (constant_in (with_constants s.constants ss))
    shapes_among text k e =
        known_by (meaning_of own_meant text) (meaning_of (all_later c) text) (meaning_in outer text) k
        (constant_in (with_constants s.constants ss) text) (later_value (parameter_names c.parameters ++ port_names c.ports ++ items_names c.items) text)
        (λ f. ap (λ o. constant_unless o false (constant_in ss text))
        (right_of s own_meant (own_right s before (all_later c) c.overrides c.parameters c.items) text k f))
        (λ a b f.
        ap (λ o. constant_unless o false (constant_in ss text))
        (is_none_of (constant_of s.constants text) (sym (h.there text) ∙ a)) ∙ among text k f)
        (ap (λ m. value_of (inner_or m (meaning_in outer text)))
        (sym (meaning_append own_meant (all_later c) h.also_named text)) ∙ e)

-- ---- numbers

-- a number, a name that hides it, and what is around
pub number_by : (v n : Meaning) (o d : Option Const) (t : Bool) → value_of v ≡ o → is_undeclared v ≡ is_none o
    → value_of n ≡ d
    → value_of (inner_or (if (t && is_undeclared v) then faulty else undeclared) (inner_or v n))
    ≡ constant_unless o t d
number_by undeclared n None d true h k e = refl
number_by undeclared n None d false h k e = e
number_by undeclared n (Some x) d t h k e = cc
number_by (constant x selected) n None d t h k e = cc
number_by (constant x selected) n (Some y) d true h k e = h
number_by (constant x selected) n (Some y) d false h k e = h
number_by loop_variable n None d t h k e = cc
number_by loop_variable n (Some y) d t h k e = cc
number_by (object x role scalar) n None d t h k e = cc
number_by (object x role scalar) n (Some y) d t h k e = cc
number_by faulty n None d t h k e = cc
number_by faulty n (Some y) d t h k e = cc
number_by shapeless n None d t h k e = cc
number_by shapeless n (Some y) d t h k e = cc
number_by later n None d t h k e = cc
number_by later n (Some y) d t h k e = cc

-- the same without anything around
pub number_alone : (v : Meaning) (o : Option Const) (t : Bool) → value_of v ≡ o
    → value_of (inner_or undeclared (inner_or v undeclared)) ≡ constant_unless o t None
number_alone v o t h = ap value_of (alone v) ∙ h ∙ by o t
  where
    by : (o : Option Const) (t : Bool) → o ≡ constant_unless o t None
    by None true = refl
    by None false = refl
    by (Some c) t = refl

and_false : (b : Bool) → (b && false) ≡ false
and_false true = refl
and_false false = refl

and_true : (b : Bool) → (b && true) ≡ b
and_true true = refl
and_true false = refl

-- the clock, by what a scope declares and what is around
pub clock_by : (v n : Meaning) (o k : Option Const) (t clock : Bool) (d e : Option Decl) → value_of v ≡ o
    → is_undeclared v ≡ is_none o → (t ≡ true → is_clock_decl d ≡ false) → (t ≡ false → d ≡ e)
    → is_clock_decl (unless_constant k e) ≡ (clock && is_undeclared n)
    → is_clock_decl (unless_constant (constant_unless o t k) d)
    ≡ (clock && is_undeclared (inner_or (if (t && is_undeclared v) then faulty else undeclared) (inner_or v n)))
clock_by undeclared n None k true clock d e h i f g j = f refl ∙ sym (and_false clock)
clock_by undeclared n None k false clock d e h i f g j = ap (λ d. is_clock_decl (unless_constant k d)) (g refl) ∙ j
clock_by undeclared n (Some x) k t clock d e h i f g j = cc
clock_by (constant y selected) n None k t clock d e h i f g j = cc
clock_by (constant y selected) n (Some x) k true clock d e h i f g j = sym (and_false clock)
clock_by (constant y selected) n (Some x) k false clock d e h i f g j = sym (and_false clock)
clock_by loop_variable n None k t clock d e h i f g j = cc
clock_by loop_variable n (Some x) k t clock d e h i f g j = cc
clock_by (object y role scalar) n None k t clock d e h i f g j = cc
clock_by (object y role scalar) n (Some x) k t clock d e h i f g j = cc
clock_by faulty n None k t clock d e h i f g j = cc
clock_by faulty n (Some x) k t clock d e h i f g j = cc
clock_by shapeless n None k t clock d e h i f g j = cc
clock_by shapeless n (Some x) k t clock d e h i f g j = cc
clock_by later n None k t clock d e h i f g j = cc
clock_by later n (Some x) k t clock d e h i f g j = cc

-- in a module
pub clock_alone : (v : Meaning) (o : Option Const) (t clock : Bool) (d : Option Decl) → value_of v ≡ o
    → is_undeclared v ≡ is_none o → is_clock_decl d ≡ clock
    → is_clock_decl (unless_constant (constant_unless o t None) d)
    ≡ (clock && is_undeclared (inner_or undeclared (inner_or v undeclared)))
clock_alone undeclared None true clock d h i j = j ∙ sym (and_true clock)
clock_alone undeclared None false clock d h i j = j ∙ sym (and_true clock)
clock_alone undeclared (Some x) t clock d h i j = cc
clock_alone (constant y selected) None t clock d h i j = cc
clock_alone (constant y selected) (Some x) t clock d h i j = sym (and_false clock)
clock_alone loop_variable None t clock d h i j = cc
clock_alone loop_variable (Some x) t clock d h i j = cc
clock_alone (object y role scalar) None t clock d h i j = cc
clock_alone (object y role scalar) (Some x) t clock d h i j = cc
clock_alone faulty None t clock d h i j = cc
clock_alone faulty (Some x) t clock d h i j = cc
clock_alone shapeless None t clock d h i j = cc
clock_alone shapeless (Some x) t clock d h i j = cc
clock_alone later None t clock d h i j = cc
clock_alone later (Some x) t clock d h i j = cc
