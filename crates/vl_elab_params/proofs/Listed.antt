-- What names mean in a scope to which names are added.
use Rattle.std.specs.Prelude.{◌≡◌, refl, ℕ, List, [], ◌∷◌, ◌++◌, Bool, true, false, bytes_eq}
use Rattle.std.specs.Prelude.{Option, Some, None, if◌then◌else◌}
use Rattle.std.proofs.Common.{ap, sym, ◌∙◌}
use Rattle.std.proofs.lemmas.Slice.Eq.{bytes_eq-Decides}
use Rattle.vl_mean.specs.declared.const_number.Const.{Const}
use Rattle.vl_mean.specs.Constants.{Constants, constant_of}
use Rattle.vl_elab_spec.specs.Meanings.{Meaning, undeclared, constant, loop_variable, object, faulty, shapeless, later}
use Rattle.vl_elab_spec.specs.Meanings.{Names, is_undeclared, meaning_of}
use Rattle.vl_elab_scope.specs.Seen.{IsNamed, AreNamed, with_name}

-- the outer one, where nothing is declared within
abbrev pub inner_or : Meaning → Meaning → Meaning
inner_or here around = if is_undeclared here then around else here

abbrev pub named_only : List ℕ → Meaning → List ℕ → Meaning
named_only text m other = if bytes_eq other text then m else undeclared

pub named_there : (text : List ℕ) (m : Meaning) → IsNamed (text, m) → is_undeclared m ≡ false
named_there text undeclared h = absurd h
named_there text (constant c selected) h = refl
named_there text loop_variable h = refl
named_there text (object d role scalar) h = refl
named_there text faulty h = refl
named_there text shapeless h = refl
named_there text later h = refl

pub not_undeclared : (m : Meaning) → is_undeclared m ≡ true → m ≡ undeclared
not_undeclared undeclared h = refl
not_undeclared (constant c selected) h = cc
not_undeclared loop_variable h = cc
not_undeclared (object d role scalar) h = cc
not_undeclared faulty h = cc
not_undeclared shapeless h = cc
not_undeclared later h = cc

pub inner_assoc : (a b c : Meaning) → inner_or a (inner_or b c) ≡ inner_or (inner_or a b) c
inner_assoc undeclared b c = refl
inner_assoc (constant x selected) b c = refl
inner_assoc loop_variable b c = refl
inner_assoc (object x role scalar) b c = refl
inner_assoc faulty b c = refl
inner_assoc shapeless b c = refl
inner_assoc later b c = refl

-- a name before others
pub meaning_one : (text : List ℕ) (m : Meaning) (ns : Names) → is_undeclared m ≡ false → (other : List ℕ)
    → inner_or (named_only text m other) (meaning_of ns other) ≡ meaning_of ((text, m) ∷ ns) other
meaning_one text m ns h other = by (bytes_eq other text)
  where
    by : (b : Bool) → inner_or (if b then m else undeclared) (meaning_of ns other)
        ≡ (if b then m else meaning_of ns other)
    by true = ap (λ t. if t then meaning_of ns other else m) h
    by false = refl

-- one list behind the other
pub meaning_append : (ns ms : Names) → AreNamed ns → (text : List ℕ)
    → meaning_of (ns ++ ms) text ≡ inner_or (meaning_of ns text) (meaning_of ms text)
meaning_append [] ms h text = refl
meaning_append (n ∷ ns) ms h text = by (bytes_eq text n.0) (meaning_append ns ms h.1 text)
  where
    by : (b : Bool) → meaning_of (ns ++ ms) text ≡ inner_or (meaning_of ns text) (meaning_of ms text)
        → (if b then n.1 else meaning_of (ns ++ ms) text)
        ≡ inner_or (if b then n.1 else meaning_of ns text) (meaning_of ms text)
    by true k = sym (ap (λ t. if t then meaning_of ms text else n.1) (named_there n.0 n.1 h.0))
    by false k = k

pub named_append : (ns ms : Names) → AreNamed ns → AreNamed ms → AreNamed (ns ++ ms)
named_append [] ms h k = k
named_append (n ∷ ns) ms h k = (h.0, named_append ns ms h.1 k)

-- of two alike the first counts
pub meaning_with : (ns : Names) (text : List ℕ) (m : Meaning) → AreNamed ns → (other : List ℕ)
    → meaning_of (with_name ns text m) other ≡ inner_or (meaning_of ns other) (named_only text m other)
meaning_with ns text m h other = by (is_undeclared (meaning_of ns text)) refl
  where
    kept : (b : Bool) → bytes_eq other text ≡ b → is_undeclared (meaning_of ns text) ≡ false
        → meaning_of ns other ≡ inner_or (meaning_of ns other) (if b then m else undeclared)
    kept true e k =
        sym (ap (λ t. if t then m else meaning_of ns other) (ap (λ t. is_undeclared (meaning_of ns t))
        ((bytes_eq-Decides other text).0 e) ∙ k))
    kept false e k = alone (meaning_of ns other)
      where
        alone : (m : Meaning) → m ≡ inner_or m undeclared
        alone undeclared = refl
        alone (constant c selected) = refl
        alone loop_variable = refl
        alone (object d role scalar) = refl
        alone faulty = refl
        alone shapeless = refl
        alone later = refl

    by : (b : Bool) → is_undeclared (meaning_of ns text) ≡ b
        → meaning_of (if b then ns ++ (text, m) ∷ [] else ns) other
        ≡ inner_or (meaning_of ns other) (named_only text m other)
    by true e = meaning_append ns ((text, m) ∷ []) h other
    by false e = kept (bytes_eq other text) refl e

pub named_with : (ns : Names) (text : List ℕ) (m : Meaning) → AreNamed ns → IsNamed (text, m)
    → AreNamed (with_name ns text m)
named_with ns text m h k = by (is_undeclared (meaning_of ns text))
  where
    by : (b : Bool) → AreNamed (if b then ns ++ (text, m) ∷ [] else ns)
    by true = named_append ns ((text, m) ∷ []) h (k, tt)
    by false = h

-- ---- constants

abbrev pub constant_else : Option Const → Option Const → Option Const
constant_else None c = c
constant_else (Some b) c = Some b

pub constant_append : (cs ds : Constants) (text : List ℕ)
    → constant_of (cs ++ ds) text ≡ constant_else (constant_of cs text) (constant_of ds text)
constant_append [] ds text = refl
constant_append (c ∷ cs) ds text = by (bytes_eq text c.0) (constant_append cs ds text)
  where
    by : (b : Bool) → constant_of (cs ++ ds) text ≡ constant_else (constant_of cs text) (constant_of ds text)
        → (if b then Some c.1 else constant_of (cs ++ ds) text)
        ≡ constant_else (if b then Some c.1 else constant_of cs text) (constant_of ds text)
    by true k = refl
    by false k = k

pub kept_constant : (o c : Option Const) (b : Const) → o ≡ Some b → constant_else o c ≡ Some b
kept_constant None c b e = cc
kept_constant (Some a) c b e = e
