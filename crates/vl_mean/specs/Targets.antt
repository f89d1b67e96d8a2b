-- Meaning: Targets of assignments, bit by bit. IEEE 1364-2005, sections 4.2.1, 5.2 and 9.2. What lies past the range
-- is dropped. That the bits of a target are assigned from left to right is a rule of this project.
use Rattle.std.specs.Prelude.{
  ℕ,
  zero,
  suc,
  ◌+◌,
  ◌-◌,
  ◌*◌,
  ◌/◌,
  ◌%◌,
  ◌^◌,
  ◌==◌,
  List,
  [],
  ◌∷◌,
  ◌++◌,
  length,
  Bool,
}
use Rattle.std.specs.Prelude.{
  true,
  false,
  ◌&&◌,
  ◌||◌,
  not,
  nat_lt,
  is_none,
  Option,
  Some,
  None,
  ℤ,
  pos,
  negsuc,
  ◌+ℤ◌,
}
use Rattle.std.specs.Prelude.{nat_abs, bytes_eq, if◌then◌else◌}
use Rattle.vl_tree.specs.Expr.{Selects, whole, bit, part, indexed}
use Rattle.vl_tree.specs.Lval.{Lval, Lvals, named, joined, no_lvals, more_lvals}
use Rattle.vl_size.specs.declared.decl.Decl.{Decl}
use Rattle.vl_size.specs.Size.{Values, index_of, offset_of, start_of, is_constant}
use Rattle.vl_size.specs.Table.{span, is_between, word_name}
use Rattle.vl_mean.specs.Constants.{settled}
use Rattle.vl_mean.specs.Cells.{is_cell}
use Rattle.vl_mean.specs.Scopes.{Scope, full, constant_in, declared_in, operand_in, no_values}

-- a bit of a full name, counted from its lowest
pub record Spot : Type 0 where
  pub name : List ℕ
  pub offset : ℕ

-- a bit and its new value
pub record Write : Type 0 where
  pub spot : Spot
  pub value : ℕ

-- a bit of a number
abbrev pub bit_of : ℕ → ℕ → ℕ
bit_of x k = x / 2 ^ k % 2

-- the number with another value of a bit
abbrev pub with_bit : ℕ → ℕ → ℕ → ℕ
with_bit x k b = x - bit_of x k * 2 ^ k + b * 2 ^ k

abbrev pub put : Write → Values → Values
put w v text = if bytes_eq text w.spot.name then with_bit (v text) w.spot.offset w.value else v text

-- one after the other, so the last one to a bit wins
abbrev pub put_all : List Write → Values → Values
put_all [] v = v
put_all (w ∷ ws) v = put_all ws (put w v)

-- ---- the bits of a target, the highest first; None for a bit that isn't there

-- a bit of a vector of w bits
abbrev pub spot_at : ℕ → Option (List ℕ) → ℤ → Option Spot
spot_at w None i = None
spot_at w (Some text) (pos k) = if nat_lt k w then Some (record { name = text; offset = k }) else None
spot_at w (Some text) (negsuc k) = None

-- n bits of it, from a place on upwards
abbrev pub spots_from : ℕ → ℕ → Option (List ℕ) → ℤ → List (Option Spot)
spots_from zero w text i = []
spots_from (suc n) w text i = spot_at w text (i +ℤ pos n) ∷ spots_from n w text i

-- the index of a word, where it lies between the bounds
abbrev pub word_index : Option (ℤ × ℤ) → ℤ → Option ℤ
word_index None i = None
word_index (Some bounds) i = if is_between bounds.0 bounds.1 i then Some i else None

-- the word of a memory, by its full name
abbrev pub full_word : List ℕ → Option ℤ → Option (List ℕ)
full_word memory None = None
full_word memory (Some i) = Some (word_name memory i)

abbrev pub spots_of : Option Decl → (Decl → List (Option Spot)) → List (Option Spot)
spots_of None f = []
spots_of (Some d) f = f d

abbrev pub is_decl : Option Decl → (Decl → Bool) → Bool
is_decl None f = false
is_decl (Some d) f = f d

-- each bit gets that of a number
abbrev pub written : List (Option Spot) → ℕ → List Write
written [] x = []
written (None ∷ spots) x = written spots x
written (Some s ∷ spots) x = record { spot = s; value = bit_of x (length spots) } ∷ written spots x

-- the bit of the cell is among them
abbrev pub has_spot : List ℕ → ℕ → List (Option Spot) → Bool
has_spot n k [] = false
has_spot n k (None ∷ spots) = has_spot n k spots
has_spot n k (Some s ∷ spots) = (bytes_eq n s.name && (k == s.offset)) || has_spot n k spots

module _ (ss : List Scope) where
  -- of a vector
  abbrev pub vector_spots : Values → Decl → Option (List ℕ) → Selects → List (Option Spot)
  vector_spots v d text whole = spots_from d.width d.width text (pos 0)
  vector_spots v d text (bit p i whole) = spots_from 1 d.width text (offset_of d (index_of (operand_in ss v i)))
  vector_spots v d text (part p l r whole) =
      let low_end = index_of (operand_in ss v r) in
      spots_from (span (index_of (operand_in ss v l)) low_end) d.width text (offset_of d low_end)
  vector_spots v d text (indexed p s n whole) =
      let k = nat_abs (index_of (operand_in ss v n))
      in spots_from k d.width text (start_of d (index_of (operand_in ss v s)) k)
  vector_spots v d text xs = []

  -- of a memory: a word, or a part of it
  abbrev pub word_spots : Values → Decl → Selects → List (Option Spot)
  word_spots v d (bit p i xs) =
      vector_spots v d (full_word (full ss d.name) (word_index d.words (index_of (operand_in ss v i)))) xs
  word_spots v d xs = []

  abbrev pub name_spots : Values → List ℕ → Selects → List (Option Spot)
  name_spots v text xs =
      spots_of (declared_in ss text) (λ d.
      if is_none d.words then vector_spots v d (Some (full ss text)) xs else word_spots v d xs)

  abbrev mutual
    pub spots : Values → Lval → List (Option Spot)
    spots v (named p text xs) = name_spots v text xs
    spots v (joined p ls) = all_spots v ls

    pub all_spots : Values → Lvals → List (Option Spot)
    all_spots v no_lvals = []
    all_spots v (more_lvals l ls) = spots v l ++ all_spots v ls

  -- ---- which bits an assignment may change

  -- no select has a varying index
  abbrev pub are_fixed : Selects → Bool
  are_fixed whole = true
  are_fixed (bit p i xs) = is_constant (settled (constant_in ss) i) && are_fixed xs
  are_fixed (part p l r xs) = are_fixed xs
  are_fixed (indexed p s n xs) = is_constant (settled (constant_in ss) s) && are_fixed xs

  -- the bits that its selects name, where they are constant; where an index varies, each bit of the vector, or of
  -- each word of the memory
  abbrev pub name_may_change : List ℕ → Selects → List ℕ → ℕ → Bool
  name_may_change text xs n k =
      is_decl (declared_in ss text) (λ d. if are_fixed xs then has_spot n k (name_spots no_values text xs)
      else is_cell (full ss text) d.words n && nat_lt k d.width)

  -- a bit of a cell, by its full name
  abbrev mutual
    pub may_change : Lval → List ℕ → ℕ → Bool
    may_change (named p text xs) n k = name_may_change text xs n k
    may_change (joined p ls) n k = any_may_change ls n k

    pub any_may_change : Lvals → List ℕ → ℕ → Bool
    any_may_change no_lvals n k = false
    any_may_change (more_lvals l ls) n k = may_change l n k || any_may_change ls n k
