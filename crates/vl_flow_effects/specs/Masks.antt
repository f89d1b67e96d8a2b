-- Between functions: A mask for each cell of a design, by the cell's number. Rule of this project; which bits blocks
-- assign, and which begin with a value, is `Runs` of vl_mean.
use Rattle.std.specs.Prelude.{◌≡◌, ℕ, List, length, is_some, slice_index}
use Rattle.vl_size.specs.declared.decl.Decl.{Decl}
use Rattle.vl_mean.specs.declared.driver.Driver.{Driver}
use Rattle.vl_mean.specs.declared.driver.Start.{Start}
use Rattle.vl_mean.specs.FlatParts.{parts_of}
use Rattle.vl_mean.specs.Parts.{Part}
use Rattle.vl_mean.specs.Runs.{initial_writes, is_driven, last_value}
use Rattle.fv_bit_sets.specs.Cells.{is_set}
use Rattle.vl_flow_spec.specs.Reads.{Bits}
use Rattle.vl_flow_cells.specs.Numbered.{Shows, all_cells}

-- one for each cell, with these bits of it
abbrev pub AreMasks : List Decl → List ℕ → Bits → Type 0
AreMasks ds masks K = (length masks ≡ length (all_cells ds)) × Shows ds (λ c k. is_set (slice_index masks c) k) K

-- the bits that some combinational block may assign, whatever begins with a value
abbrev pub AreDriven : List Decl → List Driver → List ℕ → Type 0
AreDriven ds drivers masks = (xs : List Start) → AreMasks ds masks (is_driven (parts_of ds drivers xs))

-- the bit has a value at first
abbrev pub begins : List Part → Bits
begins ps n k = is_some (last_value (initial_writes ps) n k)

-- the bits with a value at first, whatever drives them
abbrev pub AreStarted : List Decl → List Start → List ℕ → Type 0
AreStarted ds xs masks = (drivers : List Driver) → AreMasks ds masks (begins (parts_of ds drivers xs))
