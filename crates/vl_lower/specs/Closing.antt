-- Between functions: A net that is closed over cells of the next cycle. Rule of this project.
use Rattle.std.specs.Prelude.{◌≡◌, ℕ, List, [], map}
use Rattle.wn_net.specs.declared.names.Spot.{Spot}
use Rattle.wn_net.specs.Changes.{AddsNodes, Keeps}
use Rattle.wn_net.specs.Net.{Netlist}
use Rattle.vl_lower_assign.specs.declared.track.Track.{Track}
use Rattle.vl_lower_assign.specs.Frames.{Cells}
use Rattle.vl_lower_state.specs.Nexts.{ShowBits, with_nexts}
use Rattle.vl_lower_state.specs.Stores.{AreStored}

-- cells of a cycle and of the next one, between blocks: nothing is assumed, and nothing is to be taken back
abbrev pub over : List ℕ → List ℕ → List Track → Cells
over now next tracks = record { now = now; next = next; assumed = []; log = []; tracks = tracks }

-- Registers get the bits of cells that they are, and memories the writes that lead to their words' cells; nothing else is
-- changed but that
-- nodes are added.
pub record Closes (old new : Netlist) (cells : List ℕ) (tracks : List Track) (spots : List Spot) (places firsts : List ℕ)
    : Type 0 where
  -- where all bits are gathered
  pub mid : Netlist
  pub nexts : List ℕ
  pub adds : AddsNodes old mid
  pub shows : ShowBits old mid cells spots places nexts
  pub regs : new.regs ≡ with_nexts nexts old.regs
  pub stored : AreStored new cells tracks 0 new.mems firsts
  pub keeps : Keeps mid new
  pub inputs : new.inputs ≡ old.inputs
  pub assumes : new.assumes ≡ old.assumes
  pub mem_widths : map (λ m. m.width) new.mems ≡ map (λ m. m.width) old.mems
  pub mem_words : map (λ m. m.words) new.mems ≡ map (λ m. m.words) old.mems
  pub mem_starts : map (λ m. m.init) new.mems ≡ map (λ m. m.init) old.mems
