-- Between functions: Memories of the net whose words stand in cells, and the writes that lead from the words to the
-- cells of the next cycle. Rule of this project.
use Rattle.std.specs.Prelude.{◌≡◌, ℕ, ◌+◌, ◌<◌, ◌≤◌, List, ◌∷◌, [], ◌++◌, length, map, slice_index, slice_index_or}
use Rattle.std.specs.Prelude.{◌⊎◌, Option, Some, None, IfSome}
use Rattle.std.specs.List.{AllByRecursion}
use Rattle.wn_net.specs.Value.{Given, word_at, words_of}
use Rattle.wn_net.specs.Given.{IsGiven}
use Rattle.wn_net.specs.Net.{Netlist, IsWriteOf, value_at, width_at}
use Rattle.wn_net.specs.Changes.{mem_width}
use Rattle.wn_net.specs.declared.parts.MemWrite.{MemWrite}
use Rattle.wn_chain.specs.Writes.{written_by}
use Rattle.vl_lower_assign.specs.declared.slot.Holder.{Holder}
use Rattle.vl_lower_assign.specs.declared.slot.Holder.TheVariants as holder
use Rattle.vl_lower_assign.specs.declared.track.Track.{Track}
use Rattle.vl_lower_assign.specs.declared.track.WordsWrite.{WordsWrite}

-- In each cycle so many cells from the first on have the numbers that the writes leave of the words of the memory with
-- this number.
pub record LeadTo (net : Netlist) (cells : List ℕ) (number first count : ℕ) (writes : List MemWrite) : Type 0 where
  pub there : number < length net.mems
  pub words : slice_index (map (λ m. m.words) net.mems) number ≡ count
  pub some : 1 ≤ count
  pub within : first + count ≤ length cells
  pub width : width_at net (slice_index cells first) ≡ mem_width net number
  pub fit : AllByRecursion (IsWriteOf net (mem_width net number)) writes
  pub numbers : (g : Given) (k : ℕ) → IsGiven net g → k < count
      → value_at net g (slice_index cells (first + k))
      ≡ word_at (written_by net g (mem_width net number) (words_of g number) writes) k

-- of a memory that isn't there
abbrev pub no_track : Track
no_track = record { first = 0; count = 0; writes = None }

-- that of the memory with a number
abbrev pub track_at : List Track → ℕ → Track
track_at tracks i = slice_index_or tracks i no_track

-- the cells of each are in front of those of the later ones
abbrev pub AreApart : List Track → Type 0
AreApart tracks =
    (i j : ℕ) → i < j → j < length tracks
    → (track_at tracks i).first + (track_at tracks i).count ≤ (track_at tracks j).first

-- the writes of each, where they are known, lead to its cells
pub record AreTracks (net : Netlist) (cells : List ℕ) (tracks : List Track) : Type 0 where
  pub each : (i : ℕ) → i < length tracks
      → IfSome (track_at tracks i).writes
      (LeadTo net cells i (track_at tracks i).first (track_at tracks i).count)
  pub apart : AreApart tracks

-- ---- what becomes of one where cells are written

-- one more write behind those that are known
pub record Gains (write : MemWrite) (old new : Track) : Type 0 where
  pub first_is : new.first ≡ old.first
  pub count_is : new.count ≡ old.count
  pub writes : IfSome new.writes (λ ws. (before : List MemWrite) × (old.writes ≡ Some before)
      × (ws ≡ before ++ write ∷ []))

-- so many cells from one on are none of the others
abbrev pub AreOff : ℕ → ℕ → ℕ → ℕ → Type 0
AreOff first count other many = (other + many ≤ first) ⊎ (first + count ≤ other)

-- there is one write more, to the words of this memory
pub record IsOneMore (made : Option WordsWrite) (old : Track) (writes : List MemWrite) : Type 0 where
  pub before : List MemWrite
  pub one : WordsWrite
  pub first_is : old.first ≡ one.first
  pub count_is : old.count ≡ one.count
  pub known : old.writes ≡ Some before
  pub made_is : made ≡ Some one
  pub all : writes ≡ before ++ one.write ∷ []

-- Where so many cells from one on were written, its writes are those from before, and none of its cells is one of these;
-- or there is one more, which was made where these were written; or they are no longer known.
pub record Follows (first count : ℕ) (made : Option WordsWrite) (old new : Track) : Type 0 where
  pub first_is : new.first ≡ old.first
  pub count_is : new.count ≡ old.count
  pub writes : IfSome new.writes (λ ws. ((old.writes ≡ Some ws) × AreOff first count old.first old.count)
      ⊎ IsOneMore made old ws)

-- and so each of them
pub record FollowAll (first count : ℕ) (made : Option WordsWrite) (old new : List Track) : Type 0 where
  pub many : length new ≡ length old
  pub each : (i : ℕ) → i < length old → Follows first count made (track_at old i) (track_at new i)

-- by what holds the bits that were written
abbrev pub FollowWrite : Holder → Option WordsWrite → List Track → List Track → Type 0
FollowWrite (holder.Cell at) made old new = FollowAll at 1 made old new
FollowWrite (holder.Word first count address) made old new = FollowAll first count made old new
FollowWrite holder.Nowhere made old new = new ≡ old
