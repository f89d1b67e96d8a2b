-- Cells after writes.
use Rattle.std.specs.Prelude.{◌≡◌, refl, ℕ, zero, suc, ◌+◌, ◌-◌, ◌<◌, ◌≤◌, ◌==◌, ◌&&◌, nat_le, nat_lt, Bool, true}
use Rattle.std.specs.Prelude.{false}
use Rattle.std.specs.Prelude.{List, [], ◌∷◌, length, slice_index, slice_set, Option, if◌then◌else◌, ℤ}
use Rattle.std.proofs.Common.{ap, sym, ◌∙◌, arith, subst, ◌⊎◌, inl, inr, true≢false}
use Rattle.std.proofs.lemmas.Bool.{eq-eqb, cases_lt}
use Rattle.std.proofs.lemmas.Bool.Decides.{nat_tests, eqb_tells}
use Rattle.wn_net.specs.Value.{Given}
use Rattle.wn_net.specs.Net.{Netlist, IsNodeOf, AreNodesOf, value_at, width_at}
use Rattle.wn_net.specs.Given.{IsGiven}
use Rattle.wn_net.specs.Changes.{AddsNodes}
use Rattle.wn_net.proofs.Laws.{node_on, value_on}
use Rattle.vl_lower_assign.specs.Places.{IsAt}
use Rattle.vl_lower_assign.specs.Puts.{put_bits}
use Rattle.vl_lower_assign.specs.declared.slot.Holder.TheVariants as holder
use Rattle.vl_lower_assign.specs.declared.slot.Slot.{Slot}
use Rattle.vl_lower_assign.specs.Slots.{AreCells, Writes, hits, is_among, is_taken}
use Rattle.vl_lower_assign.proofs.Ranges.{node_among}

-- ---- lists

pub set_length : (xs : List ℕ) (i y : ℕ) → length (slice_set xs i y) ≡ length xs
set_length [] i y = refl
set_length (x ∷ xs) zero y = refl
set_length (x ∷ xs) (suc i) y = ap suc (set_length xs i y)

pub set_here : (xs : List ℕ) (i y : ℕ) → i < length xs → slice_index (slice_set xs i y) i ≡ y
set_here [] i y h = absurd (omega (arith, h))
set_here (x ∷ xs) zero y h = refl
set_here (x ∷ xs) (suc i) y h = set_here xs i y (omega (arith, h))

pub set_there : (xs : List ℕ) (i y j : ℕ) → (j ≡ i → ⊥) → slice_index (slice_set xs i y) j ≡ slice_index xs j
set_there [] i y j h = refl
set_there (x ∷ xs) zero y zero h = absurd (h refl)
set_there (x ∷ xs) zero y (suc j) h = refl
set_there (x ∷ xs) (suc i) y zero h = refl
set_there (x ∷ xs) (suc i) y (suc j) h = set_there xs i y j (λ e. h (ap suc e))

pub same_or : (i n : ℕ) → (((i == n) ≡ true) × (i ≡ n)) ⊎ (((i == n) ≡ false) × (i ≡ n → ⊥))
same_or i n = eqb_tells i n

-- words put in the cells one after the other
pub put_inside : (cells words : List ℕ) (first k : ℕ) → first + k < length cells
    → ((j : ℕ) → j < k → slice_index cells (first + j) ≡ slice_index words j) → (j : ℕ) → j < k + 1
    → slice_index (slice_set cells (first + k) (slice_index words k)) (first + j) ≡ slice_index words j
put_inside cells words first k within h j less = by (cases_lt j k)
  where
    by : (j < k) ⊎ (k ≤ j)
        → slice_index (slice_set cells (first + k) (slice_index words k)) (first + j) ≡ slice_index words j
    by (inl l) =
        set_there cells (first + k) (slice_index words k) (first + j) (λ e. omega (arith, l, e)) ∙ h j l
    by (inr l) =
        let same : j ≡ k = omega (arith, less, l) in
        ap (λ i. slice_index (slice_set cells (first + k) (slice_index words k)) (first + i)) same
        ∙ set_here cells (first + k) (slice_index words k) within ∙ ap (slice_index words) (sym same)

-- what is written, or what was there
abbrev pub after_put : Bool → ℕ → ℕ → ℤ → ℕ → ℕ → ℕ
after_put t n w p y x = if t then put_bits n w p y x else x

module _ (old new : Netlist) (cells : List ℕ) (path : Option ℕ) (slot : Slot) (value : ℕ) where
  -- ---- one cell

  pub cell_writes : (at id : ℕ) → slot.holder ≡ holder.Cell at → AreCells old cells → at < length cells
      → IsNodeOf old slot.width (slice_index cells at) → IsNodeOf old slot.count value → AddsNodes old new
      → IsNodeOf new (width_at old (slice_index cells at)) id
      → ((g : Given) (p : ℤ) → IsGiven old g → IsAt old g slot.place p → value_at new g id
      ≡ after_put (is_taken old g path) (width_at old value) (width_at old (slice_index cells at)) p
      (value_at old g value) (value_at old g (slice_index cells at)))
      → Writes old new cells (slice_set cells at id) path slot value
  cell_writes at id e are within wide fits adds there h = record {
    adds = adds;
    alike = record { each = set_length cells at id; node = λ i less. node i less (same_or i at) };
    kept = λ i apart. set_there cells at id i (λ same. other i same (sym (ap (λ x. is_among x i) e) ∙ apart));
    numbers = λ g p i given here less. number g p i given here less (same_or i at);
  }
    where
      other : (i : ℕ) → i ≡ at → (i == at) ≡ false → ⊥
      other i same none = true≢false (sym (eq-eqb i at same) ∙ none)

      node : (i : ℕ) → i < length cells → (((i == at) ≡ true) × (i ≡ at)) ⊎ (((i == at) ≡ false) × (i ≡ at → ⊥))
          → IsNodeOf new (width_at old (slice_index cells i)) (slice_index (slice_set cells at id) i)
      node i less (inl same) =
          let P : ℕ → Type 0 = λ j. IsNodeOf new (width_at old (slice_index cells j)) (slice_index (slice_set cells at id) j) in
          let Q : ℕ → Type 0 = λ x. IsNodeOf new (width_at old (slice_index cells at)) x in
          subst P (sym same.1) (subst Q (sym (set_here cells at id within)) there)
      node i less (inr apart) =
          let Q : ℕ → Type 0 = λ x. IsNodeOf new (width_at old (slice_index cells i)) x in
          subst Q (sym (set_there cells at id i apart.1))
          (node_on old new (width_at old (slice_index cells i)) (slice_index cells i) adds (are i less, refl))

      hit : (g : Given) (i : ℕ) → hits old g slot.holder i ≡ (i == at)
      hit g i = ap (λ x. hits old g x i) e

      number : (g : Given) (p : ℤ) (i : ℕ) → IsGiven old g → IsAt old g slot.place p → i < length cells
          → (((i == at) ≡ true) × (i ≡ at)) ⊎ (((i == at) ≡ false) × (i ≡ at → ⊥))
          → value_at new g (slice_index (slice_set cells at id) i)
          ≡ after_put (is_taken old g path && hits old g slot.holder i) slot.count slot.width p (value_at old g value)
          (value_at old g (slice_index cells i))
      number g p i given here less (inl same) =
          let y = value_at old g value in
          let x = value_at old g (slice_index cells at) in
          ap (λ j. value_at new g (slice_index (slice_set cells at id) j)) same.1
          ∙ ap (value_at new g) (set_here cells at id within) ∙ h g p given here
          ∙ (λ j. after_put (is_taken old g path) (fits.1 j) (wide.1 j) p y x)
          ∙ ap (λ t. after_put t slot.count slot.width p y x) (sym (whole (is_taken old g path)))
          ∙ (λ j. after_put (is_taken old g path && sym (hit g i ∙ same.0) j) slot.count slot.width p y
          (value_at old g (slice_index cells (sym same.1 j))))
        where
          whole : (t : Bool) → (t && true) ≡ t
          whole true = refl
          whole false = refl
      number g p i given here less (inr apart) =
          let y = value_at old g value in
          let x = value_at old g (slice_index cells i) in
          ap (value_at new g) (set_there cells at id i apart.1)
          ∙ value_on old new g (slice_index cells i) adds (are i less)
          ∙ ap (λ t. after_put t slot.count slot.width p y x) (sym (none (is_taken old g path)))
          ∙ (λ j. after_put (is_taken old g path && sym (hit g i ∙ apart.0) j) slot.count slot.width p y x)
        where
          none : (t : Bool) → (t && false) ≡ false
          none true = refl
          none false = refl

  -- ---- nothing

  pub none_writes : slot.holder ≡ holder.Nowhere → AreCells old cells → old ≡ new → AddsNodes old new
      → Writes old new cells cells path slot value
  none_writes e are same adds = record {
    adds = adds;
    alike = record {
      each = refl;
      node = λ i less. node_on old new (width_at old (slice_index cells i)) (slice_index cells i) adds (are i less, refl);
    };
    kept = λ i apart. refl;
    numbers = λ g p i given here less.
        let y = value_at old g value in
        let x = value_at old g (slice_index cells i) in
        value_on old new g (slice_index cells i) adds (are i less)
        ∙ ap (λ t. after_put t slot.count slot.width p y x) (sym (none (is_taken old g path)))
        ∙ (λ j. after_put (is_taken old g path && sym (ap (λ z. hits old g z i) e) j) slot.count slot.width p y x);
  }
    where
      none : (t : Bool) → (t && false) ≡ false
      none true = refl
      none false = refl

  -- ---- one of some words

  pub words_write : (first count address : ℕ) (after words : List ℕ) → slot.holder ≡ holder.Word first count address
      → AreCells old cells → first + count ≤ length cells
      → ((k : ℕ) → k < count → IsNodeOf old slot.width (slice_index cells (first + k))) → AddsNodes old new
      → length words ≡ count → AreNodesOf new slot.width words
      → ((g : Given) (p : ℤ) (k : ℕ) → IsGiven old g → IsAt old g slot.place p → k < count
      → value_at new g (slice_index words k)
      ≡ after_put (is_taken old g path && (k == value_at old g address)) slot.count slot.width p
      (value_at old g value) (value_at old g (slice_index cells (first + k))))
      → length after ≡ length cells
      → ((k : ℕ) → k < length words → slice_index after (first + k) ≡ slice_index words k)
      → ((i : ℕ) → ((k : ℕ) → k < length words → i ≡ first + k → ⊥) → slice_index after i ≡ slice_index cells i)
      → Writes old new cells after path slot value
  words_write first count address after words e are within wide adds long nodes h size inside outside = record {
    adds = adds;
    alike = record { each = size; node = λ i less. node i less (where_is i) };
    kept = λ i apart. outside i (λ k less same. among i k (omega (arith, less, long)) same
        (sym (ap (λ x. is_among x i) e) ∙ apart));
    numbers = λ g p i given here less. number g p i given here less (where_is i);
  }
    where
      among : (i k : ℕ) → k < count → i ≡ first + k → (nat_le first i && nat_lt i (first + count)) ≡ false → ⊥
      among i k less same none = grind (arith, nat_tests, less, same, none)

      where_is : (i : ℕ) → ((k : ℕ) × (k < count) × (i ≡ first + k)) ⊎ ((k : ℕ) → k < count → i ≡ first + k → ⊥)
      where_is i = by (nat_le first i) (nat_lt i (first + count)) refl refl
        where
          by : (b c : Bool) → nat_le first i ≡ b → nat_lt i (first + count) ≡ c
              → ((k : ℕ) × (k < count) × (i ≡ first + k)) ⊎ ((k : ℕ) → k < count → i ≡ first + k → ⊥)
          by true true p q =
              let low : first ≤ i = grind (arith, nat_tests, p) in
              let high : i < first + count = grind (arith, nat_tests, q) in
              inl (i - first, omega (arith, low, high), omega (arith, low))
          by false c p q =
              let high : i < first = grind (arith, nat_tests, p) in
              inr (λ k less same. omega (arith, high, same))
          by true false p q =
              let high : first + count ≤ i = grind (arith, nat_tests, q) in
              inr (λ k less same. omega (arith, high, same, less))

      node : (i : ℕ) → i < length cells
          → ((k : ℕ) × (k < count) × (i ≡ first + k)) ⊎ ((k : ℕ) → k < count → i ≡ first + k → ⊥)
          → IsNodeOf new (width_at old (slice_index cells i)) (slice_index after i)
      node i less (inl r) =
          let k = r.0 in
          let few : k < length words = omega (arith, r.1, long) in
          let P : ℕ → Type 0 = λ j. IsNodeOf new (width_at old (slice_index cells j)) (slice_index after j) in
          let Q : ℕ → Type 0 = λ x. IsNodeOf new (width_at old (slice_index cells (first + k))) x in
          let R : ℕ → Type 0 = λ w. IsNodeOf new w (slice_index words k) in
          subst P (sym r.2) (subst Q (sym (inside k few))
          (subst R (sym (wide k r.1).1) (node_among new slot.width words k few nodes)))
      node i less (inr apart) =
          let Q : ℕ → Type 0 = λ x. IsNodeOf new (width_at old (slice_index cells i)) x in
          subst Q (sym (outside i (λ k few same. apart k (omega (arith, few, long)) same)))
          (node_on old new (width_at old (slice_index cells i)) (slice_index cells i) adds (are i less, refl))

      hit : (g : Given) (i : ℕ) → hits old g slot.holder i
          ≡ (nat_lt (value_at old g address) count && (i == first + value_at old g address))
      hit g i = ap (λ x. hits old g x i) e

      told : (k n : ℕ) → k < count → (k == n) ≡ (nat_lt n count && (first + k == first + n))
      told k n less = grind (arith, nat_tests, less)

      never : (i n : ℕ) → ((k : ℕ) → k < count → i ≡ first + k → ⊥) → (nat_lt n count && (i == first + n)) ≡ false
      never i n apart = by (nat_lt n count) (i == first + n) refl refl
        where
          by : (b c : Bool) → nat_lt n count ≡ b → (i == first + n) ≡ c
              → (nat_lt n count && (i == first + n)) ≡ false
          by true true p q =
              let less : n < count = grind (arith, nat_tests, p) in
              let same : i ≡ first + n = grind (arith, nat_tests, q) in absurd (apart n less same)
          by false c p q = ap (λ b. b && (i == first + n)) p
          by true false p q = ap (λ b. b && (i == first + n)) p ∙ q

      number : (g : Given) (p : ℤ) (i : ℕ) → IsGiven old g → IsAt old g slot.place p → i < length cells
          → ((k : ℕ) × (k < count) × (i ≡ first + k)) ⊎ ((k : ℕ) → k < count → i ≡ first + k → ⊥)
          → value_at new g (slice_index after i)
          ≡ after_put (is_taken old g path && hits old g slot.holder i) slot.count slot.width p (value_at old g value)
          (value_at old g (slice_index cells i))
      number g p i given here less (inl r) =
          let k = r.0 in
          let n = value_at old g address in
          let y = value_at old g value in
          let x = value_at old g (slice_index cells (first + k)) in
          let few : k < length words = omega (arith, r.1, long) in
          ap (λ j. value_at new g (slice_index after j)) r.2 ∙ ap (value_at new g) (inside k few)
          ∙ h g p k given here r.1
          ∙ ap (λ t. after_put (is_taken old g path && t) slot.count slot.width p y x) (told k n r.1)
          ∙ (λ j. after_put (is_taken old g path && (nat_lt n count && (sym r.2 j == first + n))) slot.count slot.width p y
          (value_at old g (slice_index cells (sym r.2 j))))
          ∙ ap (λ t. after_put (is_taken old g path && t) slot.count slot.width p y (value_at old g (slice_index cells i)))
          (sym (hit g i))
      number g p i given here less (inr apart) =
          let y = value_at old g value in
          let x = value_at old g (slice_index cells i) in
          ap (value_at new g) (outside i (λ k few same. apart k (omega (arith, few, long)) same))
          ∙ value_on old new g (slice_index cells i) adds (are i less)
          ∙ ap (λ t. after_put t slot.count slot.width p y x) (sym (none (is_taken old g path)))
          ∙ ap (λ t. after_put (is_taken old g path && t) slot.count slot.width p y x)
          (sym (hit g i ∙ never i (value_at old g address) apart))
        where
          none : (t : Bool) → (t && false) ≡ false
          none true = refl
          none false = refl
