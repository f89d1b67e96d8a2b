-- Between functions: Next nodes of registers that are bits of a design's cells. Rule of this project.
use Rattle.std.specs.Prelude.{◌≡◌, ℕ, ◌≤◌, ◌<◌, List, [], ◌∷◌, Some, length, slice_get, slice_index}
use Rattle.vl_lower_spec.specs.Maps.{gathered}
use Rattle.wn_net.specs.declared.names.Spot.{Spot}
use Rattle.wn_net.specs.declared.parts.Reg.{Reg}
use Rattle.wn_net.specs.Changes.{Shows}
use Rattle.wn_net.specs.Net.{IsNode, IsNodeOf, Netlist, value_at, width_at}

-- the registers with these next nodes
abbrev pub with_nexts : List ℕ → List Reg → List Reg
with_nexts [] rs = rs
with_nexts (n ∷ ns) [] = []
with_nexts (n ∷ ns) (r ∷ rs) = record r { next = n } ∷ with_nexts ns rs

-- a node of the width for each register
abbrev pub AreNexts : Netlist → List Reg → List ℕ → Type 0
AreNexts net [] [] = Unit {0}
AreNexts net (r ∷ rs) (n ∷ ns) = IsNodeOf net r.width n × AreNexts net rs ns
AreNexts net rs ns = ⊥

-- The bits are some of a cell, which is there.
pub record AreBitsOfCell (net : Netlist) (cells : List ℕ) (s : Spot) (cell : ℕ) : Type 0 where
  pub there : cell < length cells
  pub node : IsNode net (slice_index cells cell)
  pub some : 1 ≤ length s.bits
  pub few : length s.bits ≤ 128
  pub within : (j k : ℕ) → slice_get s.bits j ≡ Some k → k < width_at net (slice_index cells cell)

-- of each spot the cell that its bits are of
abbrev pub AreBitsOfCells : Netlist → List ℕ → List Spot → List ℕ → Type 0
AreBitsOfCells net cells [] [] = Unit {0}
AreBitsOfCells net cells (s ∷ ss) (c ∷ cs) = AreBitsOfCell net cells s c × AreBitsOfCells net cells ss cs
AreBitsOfCells net cells ss cs = ⊥

-- the nodes are these bits of the cells
abbrev pub ShowBits : Netlist → Netlist → List ℕ → List Spot → List ℕ → List ℕ → Type 0
ShowBits old new cells [] [] [] = Unit {0}
ShowBits old new cells (s ∷ ss) (c ∷ cs) (n ∷ ns) =
    Shows old new (length s.bits) (λ g. gathered (value_at old g (slice_index cells c)) s.bits) n
    × ShowBits old new cells ss cs ns
ShowBits old new cells ss cs ns = ⊥
