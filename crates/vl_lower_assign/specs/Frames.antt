-- Between functions: What the cells of a design stand for in the midst of a block, and what a step over them does.
-- Rule of this project.
use Rattle.std.specs.Prelude.{◌≡◌, ℕ, ◌+◌, ◌<◌, ◌≤◌, ◌↔◌, List, [], ◌∷◌, ◌++◌, length, map, Bool, false, ℤ}
use Rattle.std.specs.Prelude.{slice_get, slice_index, slice_set, Option, Some, None, bytes_eq, if◌then◌else◌}
use Rattle.std.specs.List.{AllByRecursion}
use Rattle.vl_tree.specs.declared.stmt.AssignKind.{AssignKind}
use Rattle.vl_tree.specs.declared.stmt.AssignKind.TheVariants as a
use Rattle.vl_size.specs.declared.decl.Decl.{Decl}
use Rattle.vl_size.specs.Size.{Values}
use Rattle.vl_mean.specs.Cells.{cells}
use Rattle.vl_mean.specs.Execution.{State}
use Rattle.vl_mean.specs.Runs.{Each}
use Rattle.vl_mean.specs.Targets.{Spot, Write, spots_from, written, put_all}
use Rattle.wn_net.specs.Value.{Given}
use Rattle.wn_net.specs.Net.{Netlist, IsNode, IsNodeOf, AreNodes, value_at}
use Rattle.wn_net.specs.Given.{IsGiven}
use Rattle.wn_net.specs.Changes.{AddsNodes}
use Rattle.vl_flow_cells.specs.Numbered.{all_cells}
use Rattle.vl_lower_assign.specs.Places.{IsPlaceIn, IsAt}
use Rattle.vl_lower_assign.specs.declared.slot.Holder.{Holder}
use Rattle.vl_lower_assign.specs.declared.slot.Holder.TheVariants as holder
use Rattle.vl_lower_assign.specs.declared.slot.Slot.{Slot}
use Rattle.vl_lower_assign.specs.Slots.{hits, is_taken}
use Rattle.vl_lower_assign.specs.declared.change.Change.{Change}
use Rattle.vl_lower_assign.specs.declared.frame.Frame.{Frame}
use Rattle.vl_lower_assign.specs.declared.track.Track.{Track}
use Rattle.vl_lower_assign.specs.Tracks.{AreTracks}

-- ---- cells in the order of the names

-- the widths of the cells
abbrev pub cell_widths : List Decl → List ℕ
cell_widths [] = []
cell_widths (d ∷ ds) = map (λ n. d.width) (cells d) ++ cell_widths ds

-- a node for each cell, of its width
pub record AreCellsOf (net : Netlist) (ds : List Decl) (cells : List ℕ) : Type 0 where
  pub each : length cells ≡ length (cell_widths ds)
  pub node : (i : ℕ) → i < length cells → IsNodeOf net (slice_index (cell_widths ds) i) (slice_index cells i)

-- in a cycle the cells have the numbers of a map
abbrev pub Stand : Netlist → Given → List Decl → List ℕ → Values → Type 0
Stand net g ds cells v =
    (i : ℕ) (n : List ℕ) → slice_get (all_cells ds) i ≡ Some n → v n ≡ value_at net g (slice_index cells i)

-- ---- frames

-- what contracts see of a frame
pub record Cells : Type 0 where
  pub now : List ℕ
  pub next : List ℕ
  pub assumed : List ℕ
  pub log : List Change
  pub tracks : List Track

abbrev pub cells_of : Frame → Cells
cells_of f = record {
  now = f.now.items;
  next = f.next.items;
  assumed = f.assumed;
  log = f.log;
  tracks = f.tracks.items;
}

-- the cells before the changes of a log
abbrev pub taken_back : List Change → List ℕ → List ℕ
taken_back [] cells = cells
taken_back (c ∷ cs) cells = slice_set (taken_back cs cells) c.cell c.node

pub record IsFrame (net : Netlist) (ds : List Decl) (f : Cells) : Type 0 where
  pub now : AreCellsOf net ds f.now
  pub next : AreCellsOf net ds f.next
  pub assumed : AreNodes net f.assumed
  pub tracks : AreTracks net f.next f.tracks

-- In a cycle a frame stands for a state, and for a map that the next cycle will have so far.
pub record StandsFor (net : Netlist) (g : Given) (ds : List Decl) (f : Cells) (t : State) (w : Values) : Type 0 where
  pub now : Stand net g ds f.now t.now
  pub next : Stand net g ds f.next w
  pub assumed : Each (λ x. 0 < x) t.seen ↔ Each (λ id. 0 < value_at net g id) f.assumed

-- ---- steps

-- Nodes are added, and a frame becomes another one: from what it stands for in a cycle it comes to what is done, and
-- what is stored. The log leads back to the cells that stood there.
pub record Steps (old new : Netlist) (ds : List Decl) (before after : Cells) (does : Given → State → State)
    (stores : Given → State → Values → Values)
    : Type 0 where
  pub adds : AddsNodes old new
  pub frame : IsFrame new ds after
  pub back : taken_back after.log after.now ≡ taken_back before.log before.now
  pub comes : (g : Given) (t : State) (w : Values) → IsGiven old g → StandsFor old g ds before t w
      → StandsFor new g ds after (does g t) (stores g t w)

-- ---- slots of a target

-- the name of a cell, where there is one, is this one
abbrev pub is_named : Option (List ℕ) → List ℕ → Bool
is_named None n = false
is_named (Some text) n = bytes_eq n text

-- cells of the width
abbrev pub AreWide : List Decl → ℕ → Holder → Type 0
AreWide ds width (holder.Cell at) = slice_get (cell_widths ds) at ≡ Some width
AreWide ds width (holder.Word first count address) =
    (1 ≤ count) × ((k : ℕ) → k < count → slice_get (cell_widths ds) (first + k) ≡ Some width)
AreWide ds width holder.Nowhere = Unit {0}

-- the node that tells the word is there
abbrev pub IsHolderIn : Netlist → Holder → Type 0
IsHolderIn net (holder.Word first count address) = IsNode net address
IsHolderIn net h = Unit {0}

-- The condition that bits of a design's cells may be written there.
pub record IsSlotFor (net : Netlist) (ds : List Decl) (slot : Slot) : Type 0 where
  pub some_bits : 1 ≤ slot.width
  pub few_bits : slot.width ≤ 128
  pub some : 1 ≤ slot.count
  pub few : slot.count ≤ 128
  pub wide : AreWide ds slot.width slot.holder
  pub holder : IsHolderIn net slot.holder
  pub place : IsPlaceIn net slot.place

-- In a cycle the slot is these bits of a name.
pub record IsSlotOf (net : Netlist) (g : Given) (ds : List Decl) (slot : Slot) (bits : List (Option Spot))
    : Type 0 where
  pub place : ℤ
  pub text : Option (List ℕ)
  pub at : IsAt net g slot.place place
  pub bits_are : bits ≡ spots_from slot.count slot.width text place
  pub held : (i : ℕ) (n : List ℕ) → slice_get (all_cells ds) i ≡ Some n → hits net g slot.holder i ≡ is_named text n

-- and so the slots, one after the other
abbrev pub AreSlotsOf : Netlist → Given → List Decl → List Slot → List (Option Spot) → Type 0
AreSlotsOf net g ds [] bits = bits ≡ []
AreSlotsOf net g ds (s ∷ ss) bits =
    (xs : List (Option Spot)) × (ys : List (Option Spot)) × IsSlotOf net g ds s xs × AreSlotsOf net g ds ss ys
    × (bits ≡ xs ++ ys)

abbrev pub AllSlots : Netlist → List Decl → List Slot → Type 0
AllSlots net ds slots = AllByRecursion (IsSlotFor net ds) slots

-- how many bits they have
abbrev pub slots_width : List Slot → ℕ
slots_width [] = 0
slots_width (s ∷ ss) = s.count + slots_width ss

-- ---- assignments: sections 9.2.1 and 9.2.2 of IEEE 1364-2005

-- a state after writes, now or at the block's end
abbrev pub with_writes : AssignKind → State → List Write → State
with_writes a.Blocking t ws = record t { now = put_all ws t.now }
with_writes a.Nonblocking t ws = record t { pending = t.pending ++ ws }

-- Nodes are added, and the bits of slots are those of a number where a path is taken.
pub record Assigns (old new : Netlist) (ds : List Decl) (before after : Cells) (path : Option ℕ) (kind : AssignKind)
    (slots : List Slot) (number : Given → ℕ)
    : Type 0 where
  pub adds : AddsNodes old new
  pub frame : IsFrame new ds after
  pub back : taken_back after.log after.now ≡ taken_back before.log before.now
  pub comes : (g : Given) (t : State) (w : Values) (bits : List (Option Spot)) → IsGiven old g
      → StandsFor old g ds before t w → AreSlotsOf old g ds slots bits
      → StandsFor new g ds after
      (if is_taken old g path then with_writes kind t (written bits (number g)) else t)
      (if is_taken old g path then put_all (written bits (number g)) w else w)
