-- Places stay, and words after a write.
use Rattle.std.specs.Prelude.{◌≡◌, refl, ℕ, zero, suc, ◌+◌, ◌<◌, ◌≤◌, ◌^◌, ◌==◌, ◌&&◌, Bool, true, false, List, [], ◌∷◌}
use Rattle.std.specs.Prelude.{length, map, slice_index, slice_set, if◌then◌else◌, ℤ}
use Rattle.std.proofs.Common.{ap, sym, ◌∙◌, arith, subst, ◌⊎◌, inl, inr}
use Rattle.fv_bits.specs.Bits.{masked, ones}
use Rattle.wn_net.specs.Value.{Given}
use Rattle.wn_net.specs.Next.{written}
use Rattle.wn_net.specs.declared.parts.MemWrite.{MemWrite}
use Rattle.wn_net.specs.Given.{IsGiven}
use Rattle.wn_net.specs.Net.{Netlist, IsNode, IsNodeOf, AreNodesOf, IsWriteOf, value_at, width_at}
use Rattle.wn_net.specs.Changes.{AddsNodes}
use Rattle.wn_net.proofs.Laws.{there_on, value_on}
use Rattle.wn_mem.specs.Words.{words_width}
use Rattle.vl_lower_nodes.specs.Points.{GivePlace}
use Rattle.vl_lower_assign.specs.declared.spread.BitPlace.{BitPlace}
use Rattle.vl_lower_assign.specs.declared.spread.BitPlace.TheVariants as place
use Rattle.vl_lower_assign.specs.Places.{IsAt, IsPlaceIn}
use Rattle.vl_lower_assign.specs.Puts.{put_bits}
use Rattle.vl_lower_assign.proofs.Masking.{masked_is}
use Rattle.vl_lower_assign.specs.declared.slot.Holder.{Holder}
use Rattle.vl_lower_assign.specs.declared.slot.Holder.TheVariants as holder
use Rattle.vl_lower_assign.specs.Slots.{AreAround, HoldsCells, IsToldBy, Stores}
use Rattle.vl_lower_assign.proofs.Written.{after_put, same_or, set_here, set_there}

pub place_on : (old new : Netlist) (p : BitPlace) → AddsNodes old new → IsPlaceIn old p → IsPlaceIn new p
place_on old new (place.Fixed q) adds h = h
place_on old new (place.Varying v) adds h = (there_on old new v.up adds h.0, there_on old new v.down adds h.1)

pub at_on : (old new : Netlist) (g : Given) (p : BitPlace) (q : ℤ) → AddsNodes old new → IsPlaceIn old p → IsAt old g p q
    → IsAt new g p q
at_on old new g (place.Fixed at) q adds own h = h
at_on old new g (place.Varying v) q adds own h =
    let up = value_on old new g v.up adds own.0 in
    let down = value_on old new g v.down adds own.1 in
    let P : ℕ → Type 0 = λ n. GivePlace n (value_at new g v.down) q in
    let Q : ℕ → Type 0 = λ n. GivePlace (value_at old g v.up) n q in
    subst P (sym up) (subst Q (sym down) h)

-- ---- words

pub width_is : (net : Netlist) (w : ℕ) (words : List ℕ) → 1 ≤ length words → AreNodesOf net w words
    → words_width net words ≡ w
width_is net w [] some h = absurd (omega (arith, some))
width_is net w (x ∷ words) some h = h.0.1

pub index_map : (f : ℕ → ℕ) (xs : List ℕ) (k : ℕ) → k < length xs → slice_index (map f xs) k ≡ f (slice_index xs k)
index_map f [] k h = absurd (omega (arith, h))
index_map f (x ∷ xs) zero h = refl
index_map f (x ∷ xs) (suc k) h = index_map f xs k (omega (arith, h))

-- one word after a write
pub word_written : (w : ℕ) (xs : List ℕ) (enable address mask number k : ℕ) → k < length xs
    → slice_index (written w xs enable address mask number) k
    ≡ (if (enable == 1) && (k == address) then masked w mask (slice_index xs k) number else slice_index xs k)
word_written w xs enable address mask number k less = by (enable == 1) (same_or k address)
  where
    new : ℕ
    new = masked w mask (slice_index xs address) number

    by : (b : Bool) → (((k == address) ≡ true) × (k ≡ address)) ⊎ (((k == address) ≡ false) × (k ≡ address → ⊥))
        → slice_index (if b then slice_set xs address new else xs) k
        ≡ (if b && (k == address) then masked w mask (slice_index xs k) number else slice_index xs k)
    by false c = refl
    by true (inl r) =
        let within : address < length xs = omega (arith, less, r.1) in
        ap (slice_index (slice_set xs address new)) r.1 ∙ set_here xs address new within
        ∙ ap (λ j. masked w mask (slice_index xs j) number) (sym r.1)
        ∙ ap (λ b. if b then masked w mask (slice_index xs k) number else slice_index xs k) (sym r.0)
    by true (inr r) =
        set_there xs address new k r.1
        ∙ ap (λ b. if b then masked w mask (slice_index xs k) number else slice_index xs k) (sym r.0)

-- by the mask and the bits of a part
pub part_written : (n w : ℕ) (p : ℤ) (y x mask bits : ℕ) (t : Bool) → x < 2 ^ w → mask ≡ put_bits n w p (ones n) 0
    → bits ≡ put_bits n w p y 0 → (if t then masked w mask x bits else x) ≡ after_put t n w p y x
part_written n w p y x mask bits true fits m b =
    (λ i. masked w (m i) x (b i)) ∙ masked_is n w p y x fits
part_written n w p y x mask bits false fits m b = refl

-- ---- the cells of a slot

pub holds_cell : (net : Netlist) (cells : List ℕ) (w : ℕ) (h : Holder) (at : ℕ) → h ≡ holder.Cell at
    → HoldsCells net cells w h → (at < length cells) × IsNodeOf net w (slice_index cells at)
holds_cell net cells w h at e own = subst (HoldsCells net cells w) e own

pub record HoldsWords (net : Netlist) (cells : List ℕ) (w first count address : ℕ) : Type 0 where
  pub some : 1 ≤ count
  pub within : first + count ≤ length cells
  pub node : (k : ℕ) → k < count → IsNodeOf net w (slice_index cells (first + k))
  pub told : IsNode net address

pub holds_words : (net : Netlist) (cells : List ℕ) (w : ℕ) (h : Holder) (first count address : ℕ)
    → h ≡ holder.Word first count address → HoldsCells net cells w h → HoldsWords net cells w first count address
holds_words net cells w h first count address e own =
    let r = subst (HoldsCells net cells w) e own in
    record { some = r.0; within = r.1; node = r.2; told = r.3 }

-- a write that leaves these words, which then stand in the cells
pub words_stored : (old new : Netlist) (cells after words : List ℕ) (w first count address : ℕ) (h : Holder) (x : MemWrite)
    → h ≡ holder.Word first count address → HoldsWords old cells w first count address → IsWriteOf new w x
    → ((g : Given) (k : ℕ) → IsGiven old g → k < count
    → value_at new g (slice_index words k)
    ≡ (if (value_at new g x.enable == 1) && (k == value_at new g x.addr)
    then masked w (value_at new g x.mask) (value_at old g (slice_index cells (first + k))) (value_at new g x.value)
    else value_at old g (slice_index cells (first + k))))
    → ((k : ℕ) → k < count → slice_index after (first + k) ≡ slice_index words k)
    → Stores old new cells after w h (record { first = first; count = count; write = x })
words_stored old new cells after words w first count address h x e own fits numbers inside =
    let all : (first ≤ first) × (first + count ≤ first + count) = (omega arith, omega arith) in
    let front : first + 0 ≡ first = omega arith in
    record {
      around = subst (AreAround first count) (sym e) all;
      within = own.within;
      wide = ap (λ i. width_at old (slice_index cells i)) (sym front) ∙ (own.node 0 own.some).1;
      fits = fits;
      numbers = λ g k given less. ap (value_at new g) (inside k less) ∙ numbers g k given less;
    }

-- and it is told by the node of the slot
pub words_told : (w first count address : ℕ) (h : Holder) (x : MemWrite) → h ≡ holder.Word first count address
    → x.addr ≡ address → IsToldBy h (record { first = first; count = count; write = x })
words_told w first count address h x e same =
    let T : Holder → Type 0 = λ k. IsToldBy k (record { first = first; count = count; write = x }) in
    let told : (first ≡ first) × (count ≡ count) × (x.addr ≡ address) = (refl, refl, same) in
    subst T (sym e) told
