-- Meaning: What holds numbers: vectors, and the words of memories, each under its name. IEEE 1364-2005, section 4.9.3.
use Rattle.std.specs.Prelude.{
  ℕ,
  zero,
  suc,
  List,
  [],
  ◌∷◌,
  Bool,
  false,
  ◌||◌,
  Option,
  Some,
  None,
  ℤ,
  pos,
  ◌+ℤ◌,
  ◌-ℤ◌,
}
use Rattle.std.specs.Prelude.{int_le, bytes_eq, if◌then◌else◌}
use Rattle.vl_size.specs.declared.decl.Decl.{Decl}
use Rattle.vl_size.specs.Table.{span, word_name}

abbrev pub contains_name : List (List ℕ) → List ℕ → Bool
contains_name [] text = false
contains_name (n ∷ ns) text = bytes_eq text n || contains_name ns text

-- names of n words, upwards or downwards from an index
abbrev pub words_from : List ℕ → ℕ → Bool → ℤ → List (List ℕ)
words_from memory zero up i = []
words_from memory (suc n) up i =
    word_name memory i ∷ words_from memory n up (if up then i +ℤ pos 1 else i -ℤ pos 1)

-- a vector is one cell; of a memory each word is one, from the left bound on
abbrev pub cells_of : List ℕ → Option (ℤ × ℤ) → List (List ℕ)
cells_of text None = text ∷ []
cells_of text (Some bounds) = words_from text (span bounds.0 bounds.1) (int_le bounds.0 bounds.1) bounds.0

abbrev pub cells : Decl → List (List ℕ)
cells d = cells_of d.name d.words

abbrev pub is_cell : List ℕ → Option (ℤ × ℤ) → List ℕ → Bool
is_cell text words n = contains_name (cells_of text words) n
