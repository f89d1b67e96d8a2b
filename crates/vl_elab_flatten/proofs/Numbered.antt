-- The numbers of constants in a scope that is filled.
use Rattle.std.specs.Prelude.{◌≡◌, refl, ℕ, List, [], ◌∷◌, ◌++◌, Bool, true, false, ◌||◌, bytes_eq}
use Rattle.std.specs.Prelude.{Option, Some, None, if◌then◌else◌}
use Rattle.std.proofs.Common.{ap, sym, ◌∙◌}
use Rattle.vl_size.specs.declared.decl.Decl.{Decl}
use Rattle.vl_size.specs.Table.{is_declared}
use Rattle.vl_mean.specs.declared.const_number.Const.{Const}
use Rattle.vl_mean.specs.Constants.{Constants, constant_of}
use Rattle.vl_mean.specs.Declarations.{with_constants}
use Rattle.vl_mean.specs.Scopes.{Scope, constant_in, constant_unless}
use Rattle.vl_elab_spec.specs.Meanings.{Meaning, undeclared, constant, loop_variable, object, faulty, shapeless, later}
use Rattle.vl_elab_spec.specs.Meanings.{Names, meaning_in, meaning_of, value_of}
use Rattle.vl_elab_scope.specs.Seen.{AreNamed, with_name}
use Rattle.vl_elab_const.specs.Numbers.{HaveNumbers}
use Rattle.vl_elab_params.proofs.Listed.{inner_or, inner_assoc, meaning_with, named_only, named_with}
use Rattle.vl_elab_flatten.specs.Levels.{constants_level, hidden}

abbrev pub meant : Option Const → Meaning
meant None = undeclared
meant (Some c) = constant c true

pub level_meaning : (cs : Constants) (text : List ℕ)
    → meaning_of (constants_level cs) text ≡ meant (constant_of cs text)
level_meaning [] text = refl
level_meaning (c ∷ cs) text = by (bytes_eq text c.0) (level_meaning cs text)
  where
    by : (b : Bool) → meaning_of (constants_level cs) text ≡ meant (constant_of cs text)
        → (if b then constant c.1 true else meaning_of (constants_level cs) text)
        ≡ meant (if b then Some c.1 else constant_of cs text)
    by true h = refl
    by false h = h

level_named : (cs : Constants) → AreNamed (constants_level cs)
level_named [] = tt
level_named (c ∷ cs) = (tt, level_named cs)

pub level_append : (cs ds : Constants) → constants_level (cs ++ ds) ≡ constants_level cs ++ constants_level ds
level_append [] ds = refl
level_append (c ∷ cs) ds = ap (λ l. (c.0, constant c.1 true) ∷ l) (level_append cs ds)

-- ---- nets and variables hide constants around

abbrev hides : Bool → Meaning
hides true = faulty
hides false = undeclared

alone : (m : Meaning) → m ≡ inner_or m undeclared
alone undeclared = refl
alone (constant c selected) = refl
alone loop_variable = refl
alone (object d role scalar) = refl
alone faulty = refl
alone shapeless = refl
alone later = refl

hides_one : (b t : Bool) → inner_or (if b then faulty else undeclared) (hides t) ≡ hides (b || t)
hides_one true t = refl
hides_one false t = refl

hidden_meaning : (l : Names) (ds : List Decl) (text : List ℕ) → AreNamed l
    → meaning_of (hidden l ds) text ≡ inner_or (meaning_of l text) (hides (is_declared ds text))
hidden_meaning l [] text h = alone (meaning_of l text)
hidden_meaning l (d ∷ ds) text h =
    let more = hides (is_declared ds text) in
    hidden_meaning (with_name l d.name faulty) ds text (named_with l d.name faulty h tt)
    ∙ ap (λ m. inner_or m more) (meaning_with l d.name faulty h text)
    ∙ sym (inner_assoc (meaning_of l text) (named_only d.name faulty text) more)
    ∙ ap (inner_or (meaning_of l text)) (hides_one (bytes_eq text d.name) (is_declared ds text))

pub hidden_append : (l : Names) (ds es : List Decl) → hidden (hidden l ds) es ≡ hidden l (ds ++ es)
hidden_append l [] es = refl
hidden_append l (d ∷ ds) es = hidden_append (with_name l d.name faulty) ds es

number_by : (o d : Option Const) (t : Bool) (n : Meaning) → value_of n ≡ d
    → value_of (inner_or (inner_or (meant o) (hides t)) n) ≡ constant_unless o t d
number_by None d true n h = refl
number_by None d false n h = h
number_by (Some c) d t n h = refl

number_of : (o d : Option Const) (n : Meaning) → value_of n ≡ d
    → value_of (inner_or (meant o) n) ≡ constant_unless o false d
number_of None d n h = h
number_of (Some c) d n h = refl

abbrev pub scope_of : List ℕ → List Decl → Constants → Scope
scope_of path ds cs = record { path = path; decls = ds; constants = cs }

module _ (outer : List Names) (ss : List Scope) (h : HaveNumbers outer ss) where
  pub level_numbers : (cs : Constants) → HaveNumbers (constants_level cs ∷ outer) (with_constants cs ss)
  level_numbers cs text =
      ap (λ m. value_of (inner_or m (meaning_in outer text))) (level_meaning cs text)
      ∙ number_of (constant_of cs text) (constant_in ss text) (meaning_in outer text) (h text)

  pub hidden_numbers : (path : List ℕ) (ds : List Decl) (cs : Constants)
      → HaveNumbers (hidden (constants_level cs) ds ∷ outer) (scope_of path ds cs ∷ ss)
  hidden_numbers path ds cs text =
      ap (λ m. value_of (inner_or m (meaning_in outer text)))
      (hidden_meaning (constants_level cs) ds text (level_named cs)
      ∙ ap (λ m. inner_or m (hides (is_declared ds text))) (level_meaning cs text))
      ∙ number_by (constant_of cs text) (constant_in ss text) (is_declared ds text) (meaning_in outer text) (h text)
