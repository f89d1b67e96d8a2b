-- A blocking assignment is written now and for the next cycle.
use Rattle.std.specs.Prelude.{◌≡◌, ℕ, ◌<◌, List, [], ◌∷◌, ◌++◌, length, slice_index, slice_set, Option, None}
use Rattle.std.proofs.Common.{sym, arith, subst}
use Rattle.vl_tree.specs.declared.stmt.AssignKind.TheVariants as a
use Rattle.vl_size.specs.declared.decl.Decl.{Decl}
use Rattle.wn_net.specs.Net.{Netlist, IsNodeOf, value_at}
use Rattle.wn_net.specs.Changes.{AddsNodes}
use Rattle.wn_net.proofs.Laws.{adds_none}
use Rattle.vl_lower_assign.specs.declared.slot.Holder.{Holder}
use Rattle.vl_lower_assign.specs.declared.slot.Holder.TheVariants as holder
use Rattle.vl_lower_assign.specs.declared.slot.Slot.{Slot}
use Rattle.vl_lower_assign.specs.Slots.{HoldsCells, IsPath, IsSlotIn, Writes}
use Rattle.vl_lower_assign.specs.Frames.{Cells, IsFrame, IsSlotFor, Assigns}
use Rattle.vl_lower_assign.specs.Logs.{noted_of, IsWithin}
use Rattle.vl_lower_assign.specs.Tracks.{FollowWrite}
use Rattle.vl_lower_assign.proofs.Assigning.{assigned_now}
use Rattle.vl_lower_assign.proofs.Behind.{cells_on}
use Rattle.vl_lower_assign.proofs.Sharing.{shared_writes}
use Rattle.vl_lower_assign.proofs.Standing.{are_cells, slot_in, slot_for_on}

held_within : (net : Netlist) (cells : List ℕ) (width : ℕ) (h : Holder) → HoldsCells net cells width h
    → IsWithin (length cells) h
held_within net cells width (holder.Cell at) held = held.0
held_within net cells width (holder.Word first count address) held = held.1
held_within net cells width holder.Nowhere held = tt

module _ (old : Netlist) (ds : List Decl) (path : Option ℕ) (slot : Slot) (value : ℕ) (f : Cells)
    (own : IsFrame old ds f) (fits : IsSlotFor old ds slot) where
  pub now_within : IsWithin (length f.now) slot.holder
  now_within = held_within old f.now slot.width slot.holder (slot_in old ds f.now slot own.now fits).held

  -- the one cell of a slot
  pub cell_held : (at : ℕ) → slot.holder ≡ holder.Cell at
      → (at < length f.now) × IsNodeOf old slot.width (slice_index f.now at)
  cell_held at e =
      let P : Holder → Type 0 = λ h. HoldsCells old f.now slot.width h in
      subst P e (slot_in old ds f.now slot own.now fits).held

  pub next_held : (at : ℕ) → slot.holder ≡ holder.Cell at → at < length f.next
  next_held at e = omega (arith, (cell_held at e).0, own.now.each, own.next.each)

  -- it may be written for the next cycle too
  pub next_slot : (new : Netlist) → AddsNodes old new → IsSlotIn new f.next slot
  next_slot new adds =
      slot_in new ds f.next slot (cells_on old new ds f.next adds own.next) (slot_for_on old new ds slot adds fits)

  -- by one write, where the same node stood in both places
  pub assigned_shared : (new : Netlist) (h : Cells) (at : ℕ) → IsPath old path → IsNodeOf old slot.count value
      → slot.holder ≡ holder.Cell at → slice_index f.next at ≡ slice_index f.now at
      → Writes old new f.now h.now path slot value → h.next ≡ slice_set f.next at (slice_index h.now at)
      → h.assumed ≡ f.assumed → h.log ≡ f.log ++ noted_of slot.holder f.now
      → FollowWrite slot.holder None f.tracks h.tracks
      → Assigns old new ds f h path a.Blocking (slot ∷ []) (λ g. value_at old g value)
  assigned_shared new h at way there e same one next assumed log follow =
      let P : List ℕ → Type 0 = λ cells. Writes old new f.next cells path slot value in
      let held = cell_held at e in
      let two =
      shared_writes old new f.now h.now f.next path slot value at e one (are_cells old ds f.next own.next) held.0
      (next_held at e) same held.1 there in
      assigned_now ds path slot value old new old new f h own fits way there.0 (adds_none new) (adds_none old) one
      (subst P (sym next) two) now_within assumed log follow

  -- by two writes, one behind the other
  pub assigned_apart : (mid new : Netlist) (h : Cells) → IsPath old path → IsNodeOf old slot.count value
      → Writes old mid f.now h.now path slot value → Writes mid new f.next h.next path slot value
      → h.assumed ≡ f.assumed → h.log ≡ f.log ++ noted_of slot.holder f.now
      → FollowWrite slot.holder None f.tracks h.tracks
      → Assigns old new ds f h path a.Blocking (slot ∷ []) (λ g. value_at old g value)
  assigned_apart mid new h way there one two assumed log follow =
      assigned_now ds path slot value old mid mid new f h own fits way there.0 two.adds one.adds one two now_within
      assumed log follow
