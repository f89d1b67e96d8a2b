-- Between functions: Sets of bits of cells. Cells are numbered from 0, and so are the bits of each. A step gives the
-- bits of the cells from its own on, up to that of the next step. Rule of this project.
use Rattle.std.specs.Prelude.{◌≡◌, ℕ, suc, ◌<◌, ◌≤◌, ◌==◌, List, [], ◌∷◌, Bool, false}
use Rattle.std.specs.Prelude.{nat_lt}
use Rattle.std.specs.Prelude.{Option, Some, None, if◌then◌else◌}
use Rattle.std.specs.Int.{bit_at}
use Rattle.fv_bit_sets.specs.declared.step.Step.{Step}

-- the mask has the bit
abbrev pub is_set : ℕ → ℕ → Bool
is_set mask bit = bit_at mask bit == 1

-- the bits of a cell, where those before the first step have this mask
abbrev pub mask_from : ℕ → List Step → ℕ → ℕ
mask_from mask [] cell = mask
mask_from mask (s ∷ steps) cell = if nat_lt cell s.cell then mask else mask_from s.mask steps cell

abbrev pub mask_at : List Step → ℕ → ℕ
mask_at steps cell = mask_from 0 steps cell

-- the bit of the cell is in the set
abbrev pub has : List Step → ℕ → ℕ → Bool
has steps cell bit = is_set (mask_at steps cell) bit

-- no bit of the cell is in the set
abbrev pub IsBare : List Step → ℕ → Type 0
IsBare steps cell = (bit : ℕ) → has steps cell bit ≡ false

-- each cell stands before the end that isn't there
abbrev pub IsBefore : ℕ → Option ℕ → Type 0
IsBefore cell None = Unit {0}
IsBefore cell (Some past) = cell < past

-- the cells of the steps rise from `low` on, all before `past`
abbrev pub AreRising : ℕ → Option ℕ → List Step → Type 0
AreRising low past [] = Unit {0}
AreRising low past (s ∷ steps) = (low ≤ s.cell) × IsBefore s.cell past × AreRising (suc s.cell) past steps

-- from the step's cell on the bits are those of the step, and before it they are as they were
pub record Puts (before : List Step) (s : Step) (after : List Step) : Type 0 where
  pub rising : AreRising 0 (Some (suc s.cell)) after
  pub below : (cell : ℕ) → cell < s.cell → mask_at after cell ≡ mask_at before cell
  pub above : (cell : ℕ) → s.cell ≤ cell → mask_at after cell ≡ s.mask
