-- Cells that stand for a map, after bits of one were written.
use Rattle.std.specs.Prelude.{◌≡◌, refl, ℕ, ◌+◌, ◌-◌, ◌<◌, ◌==◌, ◌&&◌, nat_lt, Bool, true, false, List}
use Rattle.std.specs.Prelude.{length, slice_get, slice_index, Option, Some, if◌then◌else◌}
use Rattle.std.proofs.Common.{ap, sym, ◌∙◌, arith, subst}
use Rattle.std.proofs.lemmas.Option.{slice_get_within, get_or_from_slice_get}
use Rattle.vl_size.specs.declared.decl.Decl.{Decl}
use Rattle.vl_size.specs.Size.{Values}
use Rattle.vl_mean.specs.Targets.{Spot, written, put_all}
use Rattle.wn_net.specs.Value.{Given}
use Rattle.wn_net.specs.Net.{Netlist, IsNodeOf, value_at}
use Rattle.wn_net.specs.Given.{IsGiven}
use Rattle.wn_net.specs.Changes.{AddsNodes}
use Rattle.wn_net.proofs.Laws.{there_on, value_on}
use Rattle.vl_lower_assign.specs.Puts.{put_bits}
use Rattle.vl_lower_assign.specs.declared.slot.Holder.{Holder}
use Rattle.vl_lower_assign.specs.declared.slot.Holder.TheVariants as holder
use Rattle.vl_lower_assign.specs.declared.slot.Slot.{Slot}
use Rattle.vl_lower_assign.specs.Slots.{AreCells, HoldsCells, IsSlotIn, Writes, hits, is_taken}
use Rattle.vl_lower_assign.proofs.Places.{at_on, place_on}
use Rattle.vl_lower_assign.specs.Frames.{AreCellsOf, AreWide, IsHolderIn, IsSlotFor, IsSlotOf, Stand, cell_widths}
use Rattle.vl_lower_assign.proofs.Behind.{cell_there}
use Rattle.vl_lower_assign.proofs.Writing.{puts_at}

-- ---- a slot is of the cells

pub are_cells : (net : Netlist) (ds : List Decl) (cells : List ℕ) → AreCellsOf net ds cells → AreCells net cells
are_cells net ds cells h = λ i less. (h.node i less).0

pub wide_cell : (net : Netlist) (ds : List Decl) (cells : List ℕ) (w at : ℕ) → AreCellsOf net ds cells
    → slice_get (cell_widths ds) at ≡ Some w → (at < length cells) × IsNodeOf net w (slice_index cells at)
wide_cell net ds cells w at own e =
    let less : at < length cells = omega (arith, slice_get_within (cell_widths ds) at w e, own.each) in
    let P : ℕ → Type 0 = λ n. IsNodeOf net n (slice_index cells at) in
    (less, subst P (get_or_from_slice_get (cell_widths ds) at w 0 e) (own.node at less))

holds : (net : Netlist) (ds : List Decl) (cells : List ℕ) (w : ℕ) (h : Holder) → AreCellsOf net ds cells
    → AreWide ds w h → IsHolderIn net h → HoldsCells net cells w h
holds net ds cells w (holder.Cell at) own wide there = wide_cell net ds cells w at own wide
holds net ds cells w (holder.Word first count address) own wide there =
    let inside : (k : ℕ) → k < count → (first + k < length cells) × IsNodeOf net w (slice_index cells (first + k)) =
    λ k less. wide_cell net ds cells w (first + k) own (wide.1 k less) in
    let last = inside (count - 1) (omega (arith, wide.0)) in (
      wide.0,
      omega (arith, wide.0, last.0),
      λ k less. (inside k less).1,
      there,
    )
holds net ds cells w holder.Nowhere own wide there = tt

pub slot_in : (net : Netlist) (ds : List Decl) (cells : List ℕ) (slot : Slot) → AreCellsOf net ds cells
    → IsSlotFor net ds slot → IsSlotIn net cells slot
slot_in net ds cells slot own h = record {
  some_bits = h.some_bits;
  few_bits = h.few_bits;
  some = h.some;
  few = h.few;
  held = holds net ds cells slot.width slot.holder own h.wide h.holder;
  place = h.place;
}

-- ---- slots stay

holder_on : (old new : Netlist) (h : Holder) → AddsNodes old new → IsHolderIn old h → IsHolderIn new h
holder_on old new (holder.Cell at) adds own = own
holder_on old new (holder.Word first count address) adds own = there_on old new address adds own
holder_on old new holder.Nowhere adds own = own

pub slot_for_on : (old new : Netlist) (ds : List Decl) (slot : Slot) → AddsNodes old new → IsSlotFor old ds slot
    → IsSlotFor new ds slot
slot_for_on old new ds slot adds h = record {
  some_bits = h.some_bits;
  few_bits = h.few_bits;
  some = h.some;
  few = h.few;
  wide = h.wide;
  holder = holder_on old new slot.holder adds h.holder;
  place = place_on old new slot.place adds h.place;
}

hits_on : (old new : Netlist) (g : Given) (h : Holder) (i : ℕ) → AddsNodes old new → IsHolderIn old h
    → hits new g h i ≡ hits old g h i
hits_on old new g (holder.Cell at) i adds own = refl
hits_on old new g (holder.Word first count address) i adds own =
    ap (λ word. nat_lt word count && (i == first + word)) (value_on old new g address adds own)
hits_on old new g holder.Nowhere i adds own = refl

pub slot_on : (old new : Netlist) (g : Given) (ds : List Decl) (slot : Slot) (bits : List (Option Spot))
    → AddsNodes old new → IsSlotFor old ds slot → IsSlotOf old g ds slot bits → IsSlotOf new g ds slot bits
slot_on old new g ds slot bits adds own h = record {
  place = h.place;
  text = h.text;
  at = at_on old new g slot.place h.place adds own.place h.at;
  bits_are = h.bits_are;
  held = λ i n e. hits_on old new g slot.holder i adds own.holder ∙ h.held i n e;
}

-- ---- after a write

pub cells_written : (old new : Netlist) (ds : List Decl) (before after : List ℕ) (path : Option ℕ) (slot : Slot)
    (value : ℕ) → Writes old new before after path slot value → AreCellsOf old ds before → AreCellsOf new ds after
cells_written old new ds before after path slot value h own = record {
  each = h.alike.each ∙ own.each;
  node = λ i less.
      let there : i < length before = omega (arith, less, h.alike.each) in
      let r = h.alike.node i there in (r.0, r.1 ∙ (own.node i there).1);
}

pub stand_written : (old new : Netlist) (g : Given) (ds : List Decl) (before after : List ℕ) (path : Option ℕ)
    (slot : Slot) (value : ℕ) (bits : List (Option Spot)) (v : Values)
    → Writes old new before after path slot value → IsGiven old g → AreCellsOf old ds before → Stand old g ds before v
    → IsSlotOf old g ds slot bits
    → Stand new g ds after (if is_taken old g path then put_all (written bits (value_at old g value)) v else v)
stand_written old new g ds before after path slot value bits v h given own has s i n e =
    let y = value_at old g value in
    let x = value_at old g (slice_index before i) in
    let p = s.place in
    let there = cell_there old ds before i n own e in
    let from = has i n e in
    let put = λ (z : ℕ). put_bits slot.count slot.width p y z in
    by (is_taken old g path) x y
    (ap (λ bs. put_all (written bs y) v n) s.bits_are ∙ puts_at slot.count slot.width s.text p y v n
    ∙ (λ j. if sym (s.held i n e) j then put (from j) else from j))
    from
    ∙ sym (h.numbers g p i given s.at there)
  where
    by : (t : Bool) (x y : ℕ)
        → put_all (written bits y) v n ≡ (if hits old g slot.holder i
        then put_bits slot.count slot.width s.place y x else x)
        → v n ≡ x
        → (if t then put_all (written bits y) v else v) n
        ≡ (if t && hits old g slot.holder i then put_bits slot.count slot.width s.place y x else x)
    by true x y e f = e
    by false x y e f = f
