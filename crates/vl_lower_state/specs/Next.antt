-- Between functions: Registers and memories that get the cells of the next cycle. Rule of this project.
use Rattle.std.specs.Prelude.{◌≡◌, ℕ, List, map}
use Rattle.vl_size.specs.declared.decl.Decl.{Decl}
use Rattle.vl_size.specs.Size.{Values}
use Rattle.vl_mean.specs.Parts.{Part}
use Rattle.wn_net.specs.declared.names.Names.{Names}
use Rattle.wn_net.specs.declared.parts.Mem.{Mem}
use Rattle.wn_net.specs.declared.parts.Reg.{Reg}
use Rattle.wn_net.specs.Changes.{Keeps}
use Rattle.wn_net.specs.Given.{IsGiven}
use Rattle.wn_net.specs.Net.{IsNet, Netlist}
use Rattle.wn_net.specs.Value.{Given}
use Rattle.vl_lower_assign.specs.declared.track.Track.{Track}
use Rattle.vl_lower_assign.specs.Tracks.{AreTracks}
use Rattle.vl_lower_assign.specs.Frames.{AreCellsOf, Stand}
use Rattle.vl_lower_spec.specs.Sources.{AreEach}
use Rattle.vl_lower_spec.specs.Edges.{AreWritten, IsNextOf}
use Rattle.vl_lower_cell_laws.specs.Entries.{all_entries}
use Rattle.vl_lower_cell_laws.specs.Listing.{HasSources, Keeping}
use Rattle.vl_lower_state.specs.Nexts.{ShowBits, with_nexts}
use Rattle.vl_lower_state.specs.Stores.{AreStored}
use Rattle.vl_lower_state.specs.Held.{memory_firsts, register_places}

-- registers whose next nodes are gathered from the cells
abbrev pub RegistersAreNext : Type 0
RegistersAreNext =
    (ds : List Decl) (ps : List Part) (keep : Keeping) (nodes : List ℕ) (old mid net : Netlist) (names : Names)
    (cells nexts : List ℕ) (rs : List Reg) (g : Given) (w : Values)
    → names.list ≡ all_entries ps ds nodes 0 0 → HasSources ps keep ds net names
    → ShowBits old mid cells names.regs (register_places ps keep ds 0) nexts → net.regs ≡ with_nexts nexts rs
    → Keeps mid net → IsGiven old g → Stand old g ds cells w → AreEach (IsNextOf net names g w) net.regs names.regs

-- memories whose words are written, each with its cell, or by the writes that lead to their cells
abbrev pub WordsAreNext : Type 0
WordsAreNext =
    (ds : List Decl) (ps : List Part) (keep : Keeping) (nodes : List ℕ) (old net : Netlist) (names : Names)
    (cells : List ℕ) (tracks : List Track) (g : Given) (w : Values) → names.list ≡ all_entries ps ds nodes 0 0
    → HasSources ps keep ds net names → AreTracks old cells tracks → AreCellsOf old ds cells → Keeps old net
    → map (λ (m : Mem). m.width) net.mems ≡ map (λ (m : Mem). m.width) old.mems
    → AreStored net cells tracks 0 net.mems (memory_firsts ps ds 0) → IsNet net → IsGiven old g → IsGiven net g
    → Stand old g ds cells w → AreWritten net names g w
