-- Between functions: The phases that make a design's net: inputs, registers and memories with cells that have what is
-- free, the drivers settled over these cells, the clocked blocks at the clock's edge, and next nodes, writes,
-- assumptions and names, with which the net is closed. Rule of this project.
use Rattle.std.specs.Prelude.{◌≡◌, ℕ, List, ◌++◌, All}
use Rattle.vl_size.specs.declared.decl.Decl.{Decl}
use Rattle.vl_size.specs.Size.{Values}
use Rattle.vl_size.specs.Table.{AreApart, AreDifferent, IsShaped}
use Rattle.vl_mean.specs.declared.driver.Driver.{Driver}
use Rattle.vl_mean.specs.declared.driver.Start.{Start}
use Rattle.vl_mean.specs.FlatLaw.{IsLawful}
use Rattle.vl_mean.specs.FlatParts.{parts_of}
use Rattle.vl_mean.specs.Parts.{Part}
use Rattle.vl_flow_spec.specs.Refusals.{HasNoRefusal}
use Rattle.vl_flow_spec.specs.Sequence.{IsSequence}
use Rattle.vl_lower_spec.specs.Maps.{given_of}
use Rattle.vl_lower_spec.specs.Evaluations.{IsLowered}
use Rattle.wn_net.specs.Value.{Given}
use Rattle.wn_net.specs.Net.{IsNet, Netlist}
use Rattle.wn_net.specs.Given.{IsGiven}
use Rattle.wn_net.specs.Changes.{Keeps}
use Rattle.wn_net.specs.declared.names.Names.{Names}
use Rattle.vl_lower_assign.specs.Frames.{Cells, Stand}
use Rattle.vl_lower_spec.specs.Built.{AreRanged}
use Rattle.vl_lower_spec.specs.Sources.{AreEach}
use Rattle.vl_lower_spec.specs.Edges.{AreWritten, IsNextOf}
use Rattle.vl_lower_cell_laws.specs.Cycles.{SettlesAll, TicksAll}
use Rattle.vl_lower_cell_laws.specs.Entries.{MemoriesStand, all_entries}
use Rattle.vl_lower_cell_laws.specs.Listing.{AreKeeps, HasSources, Keeping}

-- In a cycle the cells have the numbers of a map that names what is free in it.
pub record BeginCycle (ds : List Decl) (ps : List Part) (net : Netlist) (names : Names) (cells : Cells) (g : Given)
    : Type 0 where
  pub first : Values
  pub ranged : AreRanged ds first
  pub same : given_of names first ≡ g
  pub now : Stand net g ds cells.now first
  pub next : Stand net g ds cells.next first
  pub memories : MemoriesStand ps g first ds 0

-- Where the cells of the next cycle have the numbers of a map, registers and memories get them.
pub record ClosesCycle (ds : List Decl) (net : Netlist) (names : Names) (cells : Cells) (g : Given) (next : Values)
    : Type 0 where
  pub regs : AreEach (IsNextOf net names g next) net.regs names.regs
  pub mems : AreWritten net names g next

pub record ArePhases (ds : List Decl) (drivers : List Driver) (starts : List Start) (sequence : List ℕ) (net : Netlist)
    (names : Names) : Type 0 where
  -- the net and its cells, and nodes that tell what is assumed: begun, settled, at the edge
  pub begun : Netlist
  pub settled : Netlist
  pub ticked : Netlist
  pub first_cells : Cells
  pub settled_cells : Cells
  pub ticked_cells : Cells
  pub on_the_way : List ℕ
  pub at_the_edge : List ℕ
  -- what is kept of each cell
  pub keep : Keeping
  -- the phases
  pub keeps_are : AreKeeps (parts_of ds drivers starts) keep ds 0
  pub sources : HasSources (parts_of ds drivers starts) keep ds net names
  pub begins : (g : Given) → IsGiven net g
      → IsGiven begun g × BeginCycle ds (parts_of ds drivers starts) begun names first_cells g
  pub settles : SettlesAll ds begun settled first_cells settled_cells on_the_way drivers sequence
  pub ticks : TicksAll ds settled ticked settled_cells ticked_cells at_the_edge drivers
  pub closes : (g : Given) (next : Values) → IsGiven net g → Stand ticked g ds ticked_cells.next next
      → ClosesCycle ds net names ticked_cells g next
  pub whole : IsNet ticked
  pub keeps : Keeps ticked net
  pub assumes : net.assumes ≡ on_the_way ++ at_the_edge
  pub entries : names.list ≡ all_entries (parts_of ds drivers starts) ds settled_cells.now 0 0

-- ---- the law: the net is that of the design

abbrev pub PhasesLower : Type 0
PhasesLower =
    (ds : List Decl) (drivers : List Driver) (starts : List Start) (sequence : List ℕ) (net : Netlist)
    (names : Names) → All IsShaped ds → AreDifferent ds → AreApart ds → IsLawful ds drivers starts
    → HasNoRefusal ds drivers → IsSequence ds drivers sequence
    → ArePhases ds drivers starts sequence net names → IsLowered (parts_of ds drivers starts) net names
