-- Between functions: Writes that put nodes, the cells of the next cycle, into all words of memories. Rule of this
-- project.
use Rattle.std.specs.Prelude.{◌≡◌, ℕ, ◌+◌, ◌<◌, ◌≤◌, List, [], ◌∷◌, length, map, take, drop, slice_index}
use Rattle.std.specs.Prelude.{◌⊎◌, Some, IfSome}
use Rattle.std.specs.List.{AllByRecursion}
use Rattle.fv_bits.specs.Bits.{ones}
use Rattle.wn_net.specs.declared.parts.Mem.{Mem}
use Rattle.wn_net.specs.declared.parts.MemWrite.{MemWrite}
use Rattle.wn_net.specs.Value.{Given}
use Rattle.wn_net.specs.Net.{IsNodeOf, IsWriteOf, Netlist, value_at}
use Rattle.vl_lower_assign.specs.declared.track.Track.{Track}
use Rattle.vl_lower_assign.specs.Tracks.{track_at}

-- the node has this number in each cycle
pub record IsConstant (net : Netlist) (bits number id : ℕ) : Type 0 where
  pub node : IsNodeOf net bits id
  pub value : (g : Given) → value_at net g id ≡ number

-- the write puts a node of the width into the word at the address
pub record PutsNode (net : Netlist) (width address id : ℕ) (x : MemWrite) : Type 0 where
  pub acts : IsConstant net 1 1 x.enable
  pub at : IsConstant net 32 address x.addr
  pub whole : IsConstant net width (ones width) x.mask
  pub is : x.value ≡ id
  pub there : IsNodeOf net width id

-- one write for each node, from an address on
abbrev pub PutNodes : Netlist → ℕ → ℕ → List MemWrite → List ℕ → Type 0
PutNodes net width address [] [] = Unit {0}
PutNodes net width address (x ∷ xs) (n ∷ ns) =
    PutsNode net width address n x × PutNodes net width (address + 1) xs ns
PutNodes net width address xs ns = ⊥

-- the cells of a memory's words, from the first one on
abbrev pub words_at : List ℕ → Mem → ℕ → List ℕ
words_at cells m first = take m.words (drop first cells)

-- The memory with a number has the writes that were kept beside its cells, as many as it has words from the first on.
pub record IsKeptAs (tracks : List Track) (number : ℕ) (m : Mem) (first : ℕ) : Type 0 where
  pub there : number < length tracks
  pub first_is : (track_at tracks number).first ≡ first
  pub count_is : (track_at tracks number).count ≡ m.words
  pub writes_are : (track_at tracks number).writes ≡ Some m.writes

-- a memory's words are written, each with its cell, or by the writes that were kept
abbrev pub IsStored : Netlist → List ℕ → List Track → ℕ → Mem → ℕ → Type 0
IsStored net cells tracks number m first =
    PutNodes net m.width 0 m.writes (words_at cells m first) ⊎ IsKeptAs tracks number m first

-- of each memory, the first of which has a number, with the number of its first cell
abbrev pub AreStored : Netlist → List ℕ → List Track → ℕ → List Mem → List ℕ → Type 0
AreStored net cells tracks number [] [] = Unit {0}
AreStored net cells tracks number (m ∷ ms) (first ∷ firsts) =
    IsStored net cells tracks number m first × AreStored net cells tracks (number + 1) ms firsts
AreStored net cells tracks number ms firsts = ⊥

-- the writes that are known of the memory with a number fit it
abbrev pub KeptFit : Netlist → List Track → ℕ → ℕ → Type 0
KeptFit net tracks width number = IfSome (track_at tracks number).writes (AllByRecursion (IsWriteOf net width))

-- The condition: nothing is written yet, and there is a cell of the width for each word.
pub record MayStore (net : Netlist) (cells : List ℕ) (m : Mem) (first : ℕ) : Type 0 where
  pub none : m.writes ≡ []
  pub there : first + m.words ≤ length cells
  pub node : (k : ℕ) → k < m.words → IsNodeOf net m.width (slice_index cells (first + k))

-- Nodes are added, and writes of memories; nothing else is changed.
pub record AddsWrites (old new : Netlist) : Type 0 where
  pub regs : new.regs ≡ old.regs
  pub inputs : new.inputs ≡ old.inputs
  pub assumes : new.assumes ≡ old.assumes
  pub widths : map (λ m. m.width) new.mems ≡ map (λ m. m.width) old.mems
  pub words : map (λ m. m.words) new.mems ≡ map (λ m. m.words) old.mems
  pub starts : map (λ m. m.init) new.mems ≡ map (λ m. m.init) old.mems
