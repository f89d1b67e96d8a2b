-- Between functions: Where cells have the numbers of a cycle's beginning, the cycle begins with a map that names what
-- is free in it. Rule of this project.
use Rattle.std.specs.Prelude.{◌≡◌, ℕ, ◌<◌, List, All, length, slice_index}
use Rattle.vl_size.specs.declared.decl.Decl.{Decl}
use Rattle.vl_size.specs.Table.{AreApart, AreDifferent, IsShaped}
use Rattle.vl_mean.specs.FlatLaw.{IsKept}
use Rattle.vl_mean.specs.Parts.{Part}
use Rattle.wn_net.specs.declared.names.Names.{Names}
use Rattle.wn_net.specs.Value.{Given}
use Rattle.wn_net.specs.Net.{Netlist, value_at}
use Rattle.wn_net.specs.Given.{IsGiven}
use Rattle.vl_lower_assign.specs.Frames.{AreCellsOf, Cells}
use Rattle.vl_lower_cell_laws.specs.Entries.{all_entries}
use Rattle.vl_lower_cell_laws.specs.Listing.{AreKeeps, HasSources, Keeping}
use Rattle.vl_lower_cell_laws.specs.Numbers.{all_numbers}
use Rattle.vl_lower_state.specs.Phases.{BeginCycle}

-- the first net has the sources, and so has the last one, which may have any nodes, next nodes and writes
abbrev pub SourcesBeginCycles : Type 0
SourcesBeginCycles =
    (ds : List Decl) (ps : List Part) (keep : Keeping) (nodes : List ℕ) (begun net : Netlist) (names : Names)
    (cells : Cells) → All IsShaped ds → AreDifferent ds → AreApart ds → All IsKept ds → AreKeeps ps keep ds 0
    → names.list ≡ all_entries ps ds nodes 0 0 → HasSources ps keep ds begun names → HasSources ps keep ds net names
    → AreCellsOf begun ds cells.now → cells.next ≡ cells.now
    → ((g : Given) (c : ℕ) → c < length cells.now
    → slice_index (all_numbers ps keep g ds 0 0 0 0) c ≡ value_at begun g (slice_index cells.now c))
    → (g : Given) → IsGiven net g → IsGiven begun g × BeginCycle ds ps begun names cells g
