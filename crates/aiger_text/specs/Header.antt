-- Meaning: The header of a text in the ASCII format AIGER (Biere, 2007, section 2; AIGER 1.9 for the numbers behind the
-- fifth): `aag M I L O A`, M the greatest variable, and how many inputs, latches, outputs and gates there are. How long
-- a number may be is a rule of this project.
use Rattle.std.specs.Prelude.{
  ℕ,
  ◌+◌,
  Bool,
  ◌&&◌,
  nat_le,
  ◌==◌,
  if◌then◌else◌,
  List,
  [],
  ◌∷◌,
  ◌++◌,
  length,
  codes,
  bytes_eq,
}
use Rattle.std.specs.Prelude.{Option, Some, None}
use Rattle.std.specs.List.{list_all}
use Rattle.aiger_text.specs.Lines.{words, short}
use Rattle.aiger_text.specs.declared.header.Sizes.{Sizes}

abbrev pub if_some : {X Y : Type 0} → Option X → (X → Option Y) → Option Y
if_some None next = None
if_some (Some x) next = next x

-- the numbers of words, behind those of the words before them
abbrev pub shorts : List ℕ → List (List ℕ) → Option (List ℕ)
shorts ns [] = Some ns
shorts ns (w ∷ ws) = if_some (short w) (λ n. shorts (ns ++ n ∷ []) ws)

-- M, I, L, O and A, and at most four numbers behind them, where M is at least I + L + A. The graph is plain where L and
-- the further numbers are 0 and O is 1.
abbrev pub sizes_of : List ℕ → Option Sizes
sizes_of (m ∷ i ∷ l ∷ o ∷ a ∷ further) =
    if nat_le (length further) 4 && nat_le (i + l + a) m
    then Some (record {
      most = m;
      inputs = i;
      gates = a;
      plain = (l == 0) && ((o == 1) && list_all (λ n. n == 0) further);
    })
    else None
sizes_of ns = None

abbrev pub header_words : List (List ℕ) → Option Sizes
header_words [] = None
header_words (w ∷ ws) = if bytes_eq w (codes "aag") then if_some (shorts [] ws) sizes_of else None

abbrev pub header_of : List ℕ → Option Sizes
header_of line = header_words (words line)
