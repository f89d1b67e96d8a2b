-- Meaning: The names of a graph's inputs (rule of this project).
use Rattle.std.specs.Prelude.{ℕ, List, ◌++◌, ◌∷◌, decimal}
use Rattle.ck_design.specs.NotesForm.{NamedBit}

-- the name, the cycle and the bit, parted by blanks
abbrev pub bit_name : NamedBit → List ℕ
bit_name b = (b.name ++ 32 ∷ decimal b.cycle) ++ 32 ∷ decimal b.bit
