-- Between functions: Cells are nodes in a row, of which each has a number in a cycle. What it means that bits of one
-- of them are written. Rule of this project.
use Rattle.std.specs.Prelude.{◌≡◌, ℕ, ◌+◌, ◌<◌, ◌≤◌, ◌==◌, ◌&&◌, nat_le, nat_lt}
use Rattle.std.specs.Prelude.{Bool, true, false, Option, Some, None, List}
use Rattle.std.specs.Prelude.{length, slice_index, if◌then◌else◌, ℤ}
use Rattle.fv_bits.specs.Bits.{masked}
use Rattle.wn_net.specs.Value.{Given}
use Rattle.wn_net.specs.Net.{Netlist, IsNode, IsNodeOf, IsWriteOf, value_at, width_at}
use Rattle.wn_net.specs.Given.{IsGiven}
use Rattle.wn_net.specs.Changes.{AddsNodes}
use Rattle.vl_lower_assign.specs.Places.{IsPlaceIn, IsAt}
use Rattle.vl_lower_assign.specs.Puts.{put_bits}
use Rattle.vl_lower_assign.specs.declared.slot.Holder.{Holder}
use Rattle.vl_lower_assign.specs.declared.slot.Holder.TheVariants as holder
use Rattle.vl_lower_assign.specs.declared.slot.Slot.{Slot}
use Rattle.vl_lower_assign.specs.declared.track.MemoryWord.{MemoryWord}
use Rattle.vl_lower_assign.specs.declared.track.WordsWrite.{WordsWrite}

-- ---- paths

-- a path has a node of one bit, or is taken in each cycle
abbrev pub IsPath : Netlist → Option ℕ → Type 0
IsPath net None = Unit {0}
IsPath net (Some id) = IsNodeOf net 1 id

abbrev pub is_taken : Netlist → Given → Option ℕ → Bool
is_taken net g None = true
is_taken net g (Some id) = value_at net g id == 1

-- ---- slots

-- the cells are there, of the width
abbrev pub HoldsCells : Netlist → List ℕ → ℕ → Holder → Type 0
HoldsCells net cells width (holder.Cell at) = (at < length cells) × IsNodeOf net width (slice_index cells at)
HoldsCells net cells width (holder.Word first count address) =
    (1 ≤ count) × (first + count ≤ length cells)
    × ((k : ℕ) → k < count → IsNodeOf net width (slice_index cells (first + k))) × IsNode net address
HoldsCells net cells width holder.Nowhere = Unit {0}

-- the condition that bits may be written there
pub record IsSlotIn (net : Netlist) (cells : List ℕ) (slot : Slot) : Type 0 where
  pub some_bits : 1 ≤ slot.width
  pub few_bits : slot.width ≤ 128
  pub some : 1 ≤ slot.count
  pub few : slot.count ≤ 128
  pub held : HoldsCells net cells slot.width slot.holder
  pub place : IsPlaceIn net slot.place

-- in a cycle it is bits of this cell
abbrev pub hits : Netlist → Given → Holder → ℕ → Bool
hits net g (holder.Cell at) i = i == at
hits net g (holder.Word first count address) i =
    let word = value_at net g address in nat_lt word count && (i == first + word)
hits net g holder.Nowhere i = false

-- the cells that it may be bits of
abbrev pub is_among : Holder → ℕ → Bool
is_among (holder.Cell at) i = i == at
is_among (holder.Word first count address) i = nat_le first i && nat_lt i (first + count)
is_among holder.Nowhere i = false

-- ---- cells

-- each node is there
abbrev pub AreCells : Netlist → List ℕ → Type 0
AreCells net cells = (i : ℕ) → i < length cells → IsNode net (slice_index cells i)

-- as many cells, of the same widths
pub record AreAlike (old new : Netlist) (before after : List ℕ) : Type 0 where
  pub each : length after ≡ length before
  pub node : (i : ℕ) → i < length before → IsNodeOf new (width_at old (slice_index before i)) (slice_index after i)

-- Nodes are added, and other cells stand in place of those that were there. In a cycle in which the path is taken the
-- bits of the slot are those of a node.
pub record Writes (old new : Netlist) (before after : List ℕ) (path : Option ℕ) (slot : Slot) (value : ℕ)
    : Type 0 where
  pub adds : AddsNodes old new
  pub alike : AreAlike old new before after
  pub kept : (i : ℕ) → is_among slot.holder i ≡ false → slice_index after i ≡ slice_index before i
  pub numbers : (g : Given) (p : ℤ) (i : ℕ) → IsGiven old g → IsAt old g slot.place p → i < length before
      → value_at new g (slice_index after i)
      ≡ (if is_taken old g path && hits old g slot.holder i
      then put_bits slot.count slot.width p (value_at old g value) (value_at old g (slice_index before i))
      else value_at old g (slice_index before i))

-- ---- words of a memory

-- the cells of a slot are all among so many from the first on
abbrev pub AreAround : ℕ → ℕ → Holder → Type 0
AreAround first count (holder.Cell at) = (first ≤ at) × (at < first + count)
AreAround first count (holder.Word other many address) = (first ≤ other) × (other + many ≤ first + count)
AreAround first count holder.Nowhere = Unit {0}

-- The write is one to words that stand in cells, all those of a slot among them: it leaves of the words before in each
-- cycle those after.
pub record Stores (old new : Netlist) (before after : List ℕ) (width : ℕ) (h : Holder) (made : WordsWrite) : Type 0 where
  pub around : AreAround made.first made.count h
  pub within : made.first + made.count ≤ length before
  pub wide : width_at old (slice_index before made.first) ≡ width
  pub fits : IsWriteOf new width made.write
  pub numbers : (g : Given) (k : ℕ) → IsGiven old g → k < made.count
      → value_at new g (slice_index after (made.first + k))
      ≡ (if (value_at new g made.write.enable == 1) && (k == value_at new g made.write.addr)
      then masked width (value_at new g made.write.mask) (value_at old g (slice_index before (made.first + k)))
      (value_at new g made.write.value)
      else value_at old g (slice_index before (made.first + k)))

-- it is one to the words of a slot, by the node that tells which of them
abbrev pub IsToldBy : Holder → WordsWrite → Type 0
IsToldBy (holder.Word first count address) made =
    (made.first ≡ first) × (made.count ≡ count) × (made.write.addr ≡ address)
IsToldBy h made = Unit {0}

-- The word is one of words in a row that stand in cells, the first of them of a width.
pub record IsWordIn (net : Netlist) (cells : List ℕ) (width : ℕ) (word : MemoryWord) : Type 0 where
  pub reached : word.address < word.count
  pub within : word.first + word.count ≤ length cells
  pub wide : width_at net (slice_index cells word.first) ≡ width
