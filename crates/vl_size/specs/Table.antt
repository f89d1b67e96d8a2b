-- Meaning: Declarations in order. Rules of this project, but that names of one scope differ: IEEE 1364-2005, section
-- 12.7.
use Rattle.std.specs.Prelude.{
  ◌≡◌,
  ℕ,
  ◌+◌,
  ◌≤◌,
  List,
  [],
  ◌∷◌,
  ◌++◌,
  Bool,
  true,
  false,
  ◌||◌,
  ◌&&◌,
  Option,
  Some,
}
use Rattle.std.specs.Prelude.{
  None,
  All,
  find,
  position,
  bytes_eq,
  ℤ,
  ◌-ℤ◌,
  nat_abs,
  codes,
  int_le,
  not,
  ◌==◌,
}
use Rattle.std.specs.List.{list_all}
use Rattle.std.specs.Fmt.{signed_decimal}
use Rattle.vl_size.specs.declared.decl.Decl.{Decl}

-- how many places lie from one bound to the other
abbrev pub span : ℤ → ℤ → ℕ
span left right = nat_abs (left -ℤ right) + 1

-- the width is from 1 to 128, and that of the range
pub record IsShaped (d : Decl) : Type 0 where
  pub some_bits : 1 ≤ d.width
  pub few_bits : d.width ≤ 128
  pub spans : d.width ≡ span d.left d.right

-- the index lies between the bounds, which may stand in either order
abbrev pub is_between : ℤ → ℤ → ℤ → Bool
is_between left right i = (int_le left i && int_le i right) || (int_le right i && int_le i left)

-- the name of a memory's word, as it is printed: `memory[3]`
abbrev pub word_name : List ℕ → ℤ → List ℕ
word_name memory i = memory ++ codes "[" ++ signed_decimal i ++ codes "]"

abbrev pub IsNoWordIn : Option (ℤ × ℤ) → List ℕ → List ℕ → Type 0
IsNoWordIn None memory name = Unit {0}
IsNoWordIn (Some bounds) memory name =
    (i : ℤ) → is_between bounds.0 bounds.1 i ≡ true → name ≡ word_name memory i → ⊥

-- none of the names is that of a word of the declaration
abbrev pub HasNoWord : List Decl → Decl → Type 0
HasNoWord ds d = All (λ e. IsNoWordIn d.words d.name e.name) ds

-- no declared name is that of a memory's word
abbrev pub AreApart : List Decl → Type 0
AreApart ds = All (HasNoWord ds) ds

-- no bracket stands in a name of the source: section 3.7
abbrev pub is_plain : List ℕ → Bool
is_plain name = list_all (λ c. not (c == 91)) name

abbrev pub IsPlain : Decl → Type 0
IsPlain d = is_plain d.name ≡ true

abbrev pub is_declared : List Decl → List ℕ → Bool
is_declared [] name = false
is_declared (d ∷ ds) name = bytes_eq name d.name || is_declared ds name

-- the names differ
abbrev pub AreDifferent : List Decl → Type 0
AreDifferent [] = Unit {0}
AreDifferent (d ∷ ds) = (is_declared ds d.name ≡ false) × AreDifferent ds

-- the place of the name
abbrev pub place : List Decl → List ℕ → Option ℕ
place ds name = position (λ d. bytes_eq name d.name) ds

-- the declaration of the name
abbrev pub declared_as : List Decl → List ℕ → Option Decl
declared_as ds name = find (λ d. bytes_eq name d.name) ds
