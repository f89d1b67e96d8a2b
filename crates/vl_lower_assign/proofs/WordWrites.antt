-- A word of a memory that is written as the one word of another.
use Rattle.std.specs.Prelude.{◌≡◌, refl, ℕ, ◌+◌, ◌<◌, ◌≤◌, ◌==◌, ◌&&◌, nat_le, nat_lt, Bool, true, false, List}
use Rattle.std.specs.Prelude.{length, slice_index, Option, if◌then◌else◌, ℤ}
use Rattle.std.proofs.Common.{ap, sym, ◌∙◌, arith, subst, ◌⊎◌, inl, inr, true≢false}
use Rattle.std.proofs.lemmas.Bool.{eq-eqb}
use Rattle.std.proofs.lemmas.Bool.Decides.{nat_tests}
use Rattle.fv_bits.specs.Bits.{masked}
use Rattle.wn_net.specs.Value.{Given}
use Rattle.wn_net.specs.Net.{Netlist, IsNode, IsNodeOf, value_at, width_at}
use Rattle.wn_net.specs.Given.{IsGiven}
use Rattle.wn_net.specs.Changes.{AddsNodes}
use Rattle.wn_net.proofs.Laws.{adds_on, given_on, there_on, value_on}
use Rattle.vl_lower_assign.specs.Places.{IsPlaceIn}
use Rattle.vl_lower_assign.specs.declared.slot.Holder.{Holder}
use Rattle.vl_lower_assign.specs.declared.slot.Holder.TheVariants as holder
use Rattle.vl_lower_assign.specs.declared.slot.Slot.{Slot}
use Rattle.vl_lower_assign.specs.declared.track.MemoryWord.{MemoryWord}
use Rattle.vl_lower_assign.specs.declared.track.WordsWrite.{WordsWrite}
use Rattle.vl_lower_assign.specs.Slots.{AreAround, AreCells, IsPath, IsToldBy, IsWordIn, Stores, Writes, hits, is_among}
use Rattle.vl_lower_assign.specs.Slots.{is_taken}
use Rattle.vl_lower_assign.proofs.Places.{at_on}
use Rattle.vl_lower_assign.proofs.Tests.{path_on}
use Rattle.vl_lower_assign.proofs.Written.{after_put, same_or}

-- ---- tests

none : (t : Bool) → (t && false) ≡ false
none true = refl
none false = refl

-- of one cell, counted from itself
hit : (i at : ℕ) → (nat_lt 0 1 && (i == at + 0)) ≡ (i == at)
hit i at = let same : at + 0 ≡ at = omega arith in ap (λ n. i == n) same

outside : (i at : ℕ) → (i ≡ at → ⊥) → (nat_le at i && nat_lt i (at + 1)) ≡ false
outside i at apart = by (nat_le at i) (nat_lt i (at + 1)) refl refl
  where
    by : (b c : Bool) → nat_le at i ≡ b → nat_lt i (at + 1) ≡ c → (nat_le at i && nat_lt i (at + 1)) ≡ false
    by false c p q = ap (λ t. t && nat_lt i (at + 1)) p
    by true false p q = ap (λ t. nat_le at i && t) q ∙ none (nat_le at i)
    by true true p q =
        let low : at ≤ i = grind (arith, nat_tests, p) in
        let high : i < at + 1 = grind (arith, nat_tests, q) in
        absurd (apart (omega (arith, low, high)))

-- the word that a cell is, as the one of a memory of which the address is a node
abbrev pub alone : Slot → ℕ → ℕ → Slot
alone slot at node = record slot { holder = holder.Word at 1 node }

-- Nodes were added before the write.
module _ (a b new : Netlist) (cells after : List ℕ) (path : Option ℕ) (slot : Slot) (value at zero : ℕ)
    (e : slot.holder ≡ holder.Cell at) (adds : AddsNodes a b) (way : IsPath a path) (are : AreCells a cells)
    (place : IsPlaceIn a slot.place) (there : IsNode a value) (first_word : IsNode b zero)
    (is_first : (g : Given) → IsGiven a g → value_at b g zero ≡ 0)
    (one : Writes b new cells after path (alone slot at zero) value) where
  pub cell_written : Writes a new cells after path slot value
  cell_written = record {
    adds = adds_on a b new adds one.adds;
    alike = record {
      each = one.alike.each;
      node = λ i less.
          subst (λ w. IsNodeOf new w (slice_index after i)) (adds.keeps.widths (slice_index cells i) (are i less))
          (one.alike.node i less);
    };
    kept = λ i apart. one.kept i (outside i at (other i (sym (ap (λ (h : Holder). is_among h i) e) ∙ apart)));
    numbers = λ g p i given here less.
        let y = value_at a g value in
        let x = value_at a g (slice_index cells i) in
        let t = is_taken a g path in
        one.numbers g p i (given_on a b g adds given) (at_on a b g slot.place p adds place here) less
        ∙ (λ j. after_put (path_on a b g path adds way j
        && (nat_lt (is_first g given j) 1 && (i == at + is_first g given j))) slot.count slot.width p
        (value_on a b g value adds there j) (value_on a b g (slice_index cells i) adds (are i less) j))
        ∙ ap (λ s. after_put (t && s) slot.count slot.width p y x) (hit i at)
        ∙ ap (λ (h : Holder). after_put (t && hits a g h i) slot.count slot.width p y x) (sym e);
  }
    where
      other : (i : ℕ) → (i == at) ≡ false → i ≡ at → ⊥
      other i apart same = true≢false (sym (eq-eqb i at same) ∙ apart)

  -- as a write to the words among which the cell is
  module _ (word : MemoryWord) (addr : ℕ) (made : WordsWrite) (at_is : at ≡ word.first + word.address)
      (own : IsWordIn a cells slot.width word) (told : IsNode b addr)
      (is_word : (g : Given) → IsGiven a g → value_at b g addr ≡ word.address)
      (s : Stores b new cells after slot.width (holder.Word at 1 zero) made)
      (t : IsToldBy (holder.Word at 1 zero) made) where
    pub word_stored : Stores a new cells after slot.width slot.holder
        (record { first = word.first; count = word.count; write = record made.write { addr = addr } })
    word_stored =
        let side : (word.first ≤ at) × (at < word.first + word.count) =
        (omega (arith, at_is), omega (arith, at_is, own.reached)) in
        record {
          around = subst (AreAround word.first word.count) (sym e) side;
          within = own.within;
          wide = own.wide;
          fits = record {
            enable = s.fits.enable;
            addr = there_on b new addr one.adds told;
            mask = s.fits.mask;
            value = s.fits.value;
          };
          numbers = λ g k given less. number g k given less (same_or k word.address);
        }
      where
        left : Given → Bool → ℕ → ℕ
        left g c x =
            if (value_at new g made.write.enable == 1) && c
            then masked slot.width (value_at new g made.write.mask) x (value_at new g made.write.value) else x

        number : (g : Given) (k : ℕ) → IsGiven a g → k < word.count
            → (((k == word.address) ≡ true) × (k ≡ word.address)) ⊎ (((k == word.address) ≡ false) × (k ≡ word.address → ⊥))
            → value_at new g (slice_index after (word.first + k))
            ≡ (if (value_at new g made.write.enable == 1) && (k == value_at new g addr)
            then masked slot.width (value_at new g made.write.mask) (value_at a g (slice_index cells (word.first + k)))
            (value_at new g made.write.value)
            else value_at a g (slice_index cells (word.first + k)))
        number g k given less (inl r) =
            let i = word.first + k in
            let below : i < length cells = omega (arith, less, own.within) in
            let here : made.first + 0 ≡ i = omega (arith, t.0, at_is, r.1) in
            let some : 0 < made.count = omega (arith, t.1) in
            let zero_is : value_at new g made.write.addr ≡ 0 =
            ap (value_at new g) t.2 ∙ value_on b new g zero one.adds first_word ∙ is_first g given in
            let addr_is : value_at new g addr ≡ word.address =
            value_on b new g addr one.adds told ∙ is_word g given in
            let x_is : value_at b g (slice_index cells (made.first + 0)) ≡ value_at a g (slice_index cells i) =
            ap (λ j. value_at b g (slice_index cells j)) here ∙ value_on a b g (slice_index cells i) adds (are i below) in
            let test : (0 == value_at new g made.write.addr) ≡ (k == value_at new g addr) =
            ap (λ n. 0 == n) zero_is ∙ sym r.0 ∙ ap (λ n. k == n) (sym addr_is) in
            ap (λ j. value_at new g (slice_index after j)) (sym here)
            ∙ s.numbers g 0 (given_on a b g adds given) some ∙ (λ j. left g (test j) (x_is j))
        number g k given less (inr r) =
            let i = word.first + k in
            let below : i < length cells = omega (arith, less, own.within) in
            let x = value_at a g (slice_index cells i) in
            let addr_is : value_at new g addr ≡ word.address =
            value_on b new g addr one.adds told ∙ is_word g given in
            let apart : i ≡ at → ⊥ = λ same. r.1 (omega (arith, same, at_is)) in
            let enabled = value_at new g made.write.enable == 1 in
            let number_of = masked slot.width (value_at new g made.write.mask) x (value_at new g made.write.value) in
            ap (value_at new g) (one.kept i (outside i at apart))
            ∙ value_on a new g (slice_index cells i) (adds_on a b new adds one.adds) (are i below)
            ∙ ap (λ c. if c then number_of else x) (sym (none enabled))
            ∙ ap (λ c. left g c x) (sym (ap (λ n. k == n) addr_is ∙ r.0))
