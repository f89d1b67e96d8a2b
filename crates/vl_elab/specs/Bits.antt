-- Between functions: Bits of variables off masks, one for each cell, with the bits that combinational blocks assign.
-- Rule of this project.
use Rattle.std.specs.Prelude.{ℕ, zero, suc, ◌+◌, List, [], ◌∷◌, length, take, drop, if◌then◌else◌}
use Rattle.fv_bit_sets.specs.Cells.{is_set}
use Rattle.vl_size.specs.declared.decl.Class.{Class}
use Rattle.vl_size.specs.declared.decl.Class.TheVariants as class
use Rattle.vl_size.specs.declared.decl.Decl.{Decl}
use Rattle.vl_mean.specs.Cells.{cells}

-- of so many bits, those that the mask doesn't have
abbrev pub bits_outside : ℕ → ℕ → ℕ
bits_outside mask zero = 0
bits_outside mask (suc k) = (if is_set mask k then 0 else 1) + bits_outside mask k

-- of cells of so many bits, those that the mask of each doesn't have
abbrev pub all_outside : ℕ → List ℕ → ℕ
all_outside w [] = 0
all_outside w (m ∷ ms) = bits_outside m w + all_outside w ms

abbrev pub mask_bits : Class → ℕ → List ℕ → ℕ
mask_bits class.Variable w ms = all_outside w ms
mask_bits c w ms = 0

-- the masks stand in the order of the cells
abbrev pub all_mask_bits : List Decl → List ℕ → ℕ
all_mask_bits [] ms = 0
all_mask_bits (d ∷ ds) ms =
    let n = length (cells d) in mask_bits d.class d.width (take n ms) + all_mask_bits ds (drop n ms)
