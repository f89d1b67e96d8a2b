-- Between functions: Registers that are added to a net for the bits of one cell, and a node that has their number.
-- Rule of this project.
use Rattle.std.specs.Prelude.{◌≡◌, ℕ, List, [], ◌∷◌, ◌++◌, length, map, if◌then◌else◌, slice_index}
use Rattle.vl_lower_cell_laws.specs.declared.keep.Keep.{Keep}
use Rattle.vl_lower_cell_laws.specs.Keeps.{Kept, has_bit, kept_bit}
use Rattle.wn_net.specs.Value.{Given}
use Rattle.wn_net.specs.Net.{IsNodeOf, Netlist, value_at}

-- Behind the registers that were there stand these, and a node has in each cycle a number that is made of theirs: of
-- the numbers of all registers from a place on.
pub record Holds (old new : Netlist) (xs : List Kept) (width : ℕ) (number : List ℕ → ℕ → ℕ) (id : ℕ) : Type 0 where
  pub widths : map (λ r. r.width) new.regs ≡ map (λ r. r.width) old.regs ++ map (λ x. x.width) xs
  pub starts : map (λ r. r.init) new.regs ≡ map (λ r. r.init) old.regs ++ map (λ x. x.init) xs
  pub node : IsNodeOf new width id
  pub value : (g : Given) → value_at new g id ≡ number g.state.regs (length old.regs)

-- of one bit, where it isn't driven
abbrev pub bit_registers : Keep → ℕ → List Kept
bit_registers keep k = if has_bit keep.driven k then [] else kept_bit keep k ∷ []

-- its number, which is 0 where it is driven
abbrev pub bit_number : Keep → ℕ → List ℕ → ℕ → ℕ
bit_number keep k numbers r = if has_bit keep.driven k then 0 else slice_index numbers r
