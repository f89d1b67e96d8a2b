-- Between functions: Registers whose next nodes may be gathered from cells, and memories whose words may be written
-- from them. Rule of this project.
use Rattle.std.specs.Prelude.{◌≡◌, ℕ, List, [], All}
use Rattle.vl_size.specs.declared.decl.Decl.{Decl}
use Rattle.vl_size.specs.Table.{IsShaped}
use Rattle.vl_mean.specs.Parts.{Part}
use Rattle.vl_mean.specs.Runs.{Each}
use Rattle.wn_net.specs.declared.names.Names.{Names}
use Rattle.wn_net.specs.declared.parts.Mem.{Mem}
use Rattle.wn_net.specs.Net.{Netlist}
use Rattle.vl_lower_assign.specs.Frames.{AreCellsOf}
use Rattle.vl_lower_spec.specs.Sources.{AreEach}
use Rattle.vl_lower_cell_laws.specs.Listing.{AreKeeps, HasSources, Keeping}
use Rattle.vl_lower_state.specs.Nexts.{AreBitsOfCells, AreNexts, ShowBits}
use Rattle.vl_lower_state.specs.Stores.{MayStore}
use Rattle.vl_lower_state.specs.Held.{memory_firsts, register_places}

-- What next nodes of registers want: their bits are some of a cell, and nodes of these bits have their widths.
pub record AreReady (ds : List Decl) (ps : List Part) (keep : Keeping) (net : Netlist) (names : Names) (cells : List ℕ)
    : Type 0 where
  pub bits : AreBitsOfCells net cells names.regs (register_places ps keep ds 0)
  pub nexts : (mid : Netlist) (nodes : List ℕ)
      → ShowBits net mid cells names.regs (register_places ps keep ds 0) nodes → AreNexts mid net.regs nodes

abbrev pub RegistersAreReady : Type 0
RegistersAreReady =
    (ds : List Decl) (ps : List Part) (keep : Keeping) (net : Netlist) (names : Names) (cells : List ℕ)
    → All IsShaped ds → AreKeeps ps keep ds 0 → HasSources ps keep ds net names → AreCellsOf net ds cells
    → AreReady ds ps keep net names cells

abbrev pub HasNoWrites : Mem → Type 0
HasNoWrites m = m.writes ≡ []

-- memories without writes have a cell for each word
abbrev pub MemoriesAreReady : Type 0
MemoriesAreReady =
    (ds : List Decl) (ps : List Part) (keep : Keeping) (net : Netlist) (names : Names) (cells : List ℕ)
    → HasSources ps keep ds net names → AreCellsOf net ds cells → Each HasNoWrites net.mems
    → AreEach (MayStore net cells) net.mems (memory_firsts ps ds 0)
