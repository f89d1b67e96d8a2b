-- Between functions: One memory that is written, among others. Rule of this project.
use Rattle.std.specs.Prelude.{◌≡◌, ℕ, zero, suc, List, [], ◌∷◌, Option, Some, None, slice_get}
use Rattle.wn_net.specs.declared.parts.Mem.{Mem}
use Rattle.wn_net.specs.declared.parts.MemWrite.{MemWrite}
use Rattle.wn_net.specs.Net.{Netlist}
use Rattle.vl_lower_assign.specs.declared.track.Track.{Track}
use Rattle.vl_lower_state.specs.Stores.{IsStored, MayStore}

-- the memories, but that the one at a place has these writes
abbrev pub with_writes : ℕ → List MemWrite → List Mem → List Mem
with_writes i xs [] = []
with_writes zero xs (m ∷ ms) = record m { writes = xs } ∷ ms
with_writes (suc i) xs (m ∷ ms) = m ∷ with_writes i xs ms

abbrev pub writes_of : Option Mem → List MemWrite
writes_of None = []
writes_of (Some m) = m.writes

abbrev pub writes_at : List Mem → ℕ → List MemWrite
writes_at ms i = writes_of (slice_get ms i)

-- The memory is there, and may be written.
pub record IsAt (net : Netlist) (cells : List ℕ) (mem first : ℕ) : Type 0 where
  pub memory : Mem
  pub there : slice_get net.mems mem ≡ Some memory
  pub may : MayStore net cells memory first

-- It alone has writes that it had not, for each of its words.
pub record IsStoredAt (old new : Netlist) (cells : List ℕ) (tracks : List Track) (mem first : ℕ) : Type 0 where
  pub memory : Mem
  pub there : slice_get old.mems mem ≡ Some memory
  pub others : new.mems ≡ with_writes mem (writes_at new.mems mem) old.mems
  pub stored : IsStored new cells tracks mem (record memory { writes = writes_at new.mems mem }) first
