-- Registers of a cell: what they are, and what number they make of it.
use Rattle.std.specs.Prelude.{◌≡◌, refl, ℕ, zero, suc, ◌+◌, ◌-◌, ◌*◌, ◌%◌, ◌<◌, ◌≤◌, ◌^◌, ◌==◌, List, [], ◌∷◌, length}
use Rattle.std.specs.Prelude.{Bool}
use Rattle.std.specs.Prelude.{true, false, ◌||◌, ◌++◌, Option, Some, None, is_none, if◌then◌else◌, slice_get}
use Rattle.std.specs.Prelude.{slice_index}
use Rattle.std.proofs.Common.{ap, sym, ◌∙◌, arith, pow-suc, subst, true≢false}
use Rattle.std.proofs.lemmas.Bool.Decides.{nat_tests}
use Rattle.std.proofs.lemmas.Nat.{mod_below, pow_pos}
use Rattle.std.proofs.lemmas.Nat.Bits.{bit_at_cat_high, bit_at_cat_low, bit_at_lowest, bit_at_ones, bit_at-lt}
use Rattle.std.proofs.lemmas.Nat.Bits.{bit_at-zero}
use Rattle.std.proofs.Math.Nat.{mod-eq_of_lt}
use Rattle.std.proofs.lemmas.Option.{same_Some}
use Rattle.fv_bits.specs.Bits.{ones}
use Rattle.fv_bits.proofs.SingleBits.{bit_at_low}
use Rattle.vl_mean.specs.Parts.{Part}
use Rattle.vl_mean.specs.Runs.{initial_writes, is_driven, last_value}
use Rattle.vl_mean.specs.Targets.{bit_of}
use Rattle.vl_flow_spec.proofs.Bools.{and_left, and_right}
use Rattle.vl_lower_spec.specs.Maps.{gathered}
use Rattle.wn_net.specs.declared.parts.Init.{Init}
use Rattle.wn_net.specs.declared.parts.Init.TheVariants as init
use Rattle.vl_lower_spec.specs.Sources.{BeginsAs, IsBelow, below}
use Rattle.vl_lower_spec.proofs.Bits.{below_at, below_many, gathered_whole}
use Rattle.vl_lower_cell_laws.specs.declared.keep.Keep.{Keep}
use Rattle.vl_lower_cell_laws.specs.Keeps.{AllRegistersKeepBits, IsIn, IsKeepOf, IsKept, Kept, bits_number}
use Rattle.vl_lower_cell_laws.specs.Keeps.{has_bit, is_whole, kept_bit, kept_bits, whole_kept}

-- ---- bits

-- a bit is its own lowest bit
lowest : (x k : ℕ) → bit_of (bit_of x k) 0 ≡ bit_of x k
lowest x k = bit_at_lowest (bit_of x k) ∙ mod-eq_of_lt (bit_at-lt x k)

unset : (b : ℕ) → b < 2 → (b == 1) ≡ false → b ≡ 0
unset zero p e = refl
unset (suc zero) p e = absurd (true≢false e)
unset (suc (suc b)) p e = absurd (omega (arith, p))

-- a number that is 0 in its lowest bits, or all ones
no_bit : (x w k : ℕ) → k < w → x % 2 ^ w ≡ 0 → has_bit x k ≡ false
no_bit x w k less e =
    let bit : bit_of x k ≡ 0 =
    sym (bit_at_low w x k less) ∙ ap (λ n. bit_of n k) e ∙ bit_at-zero k in
    ap (λ b. b == 1) bit

all_bits : (x w k : ℕ) → k < w → x % 2 ^ w ≡ ones w → has_bit x k ≡ true
all_bits x w k less e =
    let bit : bit_of x k ≡ 1 =
    sym (bit_at_low w x k less) ∙ ap (λ n. bit_of n k) e ∙ bit_at_ones w k less in
    ap (λ b. b == 1) bit

is_equal : (a b : ℕ) → (a == b) ≡ true → a ≡ b
is_equal a b e = grind (arith, nat_tests, e)

one_at : (j k n : ℕ) → slice_get (n ∷ []) j ≡ Some k → (j ≡ 0) × (n ≡ k)
one_at zero k n e = (refl, same_Some n k e)
one_at (suc j) k n e = absurd (true≢false (ap is_none e))

module _ (ps : List Part) (width : ℕ) (text : List ℕ) (keep : Keep) (some : 1 ≤ width)
    (is : IsKeepOf ps width text keep) where
  abbrev last : ℕ → Option ℕ
  last k = last_value (initial_writes ps) text k

  -- ---- a register of one bit

  bit_begins : (k : ℕ) → k < width → BeginsAs (kept_bit keep k).init 0 (last k)
  bit_begins k less = by (has_bit keep.known k) (is.begins k less)
    where
      by : (b : Bool) → last k ≡ (if b then Some (bit_of keep.value k) else None)
          → BeginsAs (if b then init.Known (bit_of keep.value k) else init.Free) 0 (last k)
      by true e = e ∙ ap Some (sym (lowest keep.value k))
      by false e = e

  bit_small : (k n : ℕ) → (kept_bit keep k).init ≡ init.Known n → IsBelow 1 n
  bit_small k n e = by (has_bit keep.known k) e
    where
      by : (b : Bool) → (if b then init.Known (bit_of keep.value k) else init.Free) ≡ init.Known n → n < 2 ^ 1
      by true f =
          let same : bit_of keep.value k ≡ n = known f in
          let small = bit_at-lt keep.value k in omega (arith, same, small)
        where
          known : init.Known (bit_of keep.value k) ≡ init.Known n → bit_of keep.value k ≡ n
          known f = ap (λ i. elim_number i) f
            where
              elim_number : Init → ℕ
              elim_number (init.Known x) = x
              elim_number init.Free = 0
      by false f = absurd (true≢false (ap is_free f))
        where
          is_free : Init → Bool
          is_free init.Free = true
          is_free (init.Known x) = false

  bit_kept : (k : ℕ) → k < width → has_bit keep.driven k ≡ false → IsKept ps width text (kept_bit keep k)
  bit_kept k less free = record {
    some = omega arith;
    few = some;
    many = refl;
    within = λ j i e. subst (λ n. n < width) (one_at j i k e).1 less;
    kept = λ j i e. subst (λ n. is_driven ps text n ≡ false) (one_at j i k e).1 (sym (is.driven k less) ∙ free);
    begins = λ j i e.
        let at = one_at j i k e in
        subst (λ n. BeginsAs (kept_bit keep k).init j (last n)) at.1
        (subst (λ n. BeginsAs (kept_bit keep k).init n (last k)) (sym at.0) (bit_begins k less));
    small = λ n e. bit_small k n e;
  }

  bits_kept : (n : ℕ) → n ≤ width → (i : ℕ) (x : Kept) → slice_get (kept_bits keep n) i ≡ Some x
      → IsKept ps width text x
  bits_kept zero less i x e = absurd (true≢false (ap is_none e))
  bits_kept (suc n) less i x e = by (has_bit keep.driven n) refl i e (bits_kept n (omega (arith, less)))
    where
      by : (b : Bool) → has_bit keep.driven n ≡ b → (i : ℕ)
          → slice_get (if b then kept_bits keep n else kept_bit keep n ∷ kept_bits keep n) i ≡ Some x
          → ((i : ℕ) (x : Kept) → slice_get (kept_bits keep n) i ≡ Some x → IsKept ps width text x)
          → IsKept ps width text x
      by true f i e h = h i x e
      by false f zero e h =
          subst (IsKept ps width text) (same_Some (kept_bit keep n) x e) (bit_kept n (omega (arith, less)) f)
      by false f (suc i) e h = h i x e

  bits_in : (n : ℕ) → n ≤ width → (k : ℕ) → k < n → is_driven ps text k ≡ false → IsIn (kept_bits keep n) k
  bits_in zero less k lower free = absurd (omega (arith, lower))
  bits_in (suc n) less k lower free = by (has_bit keep.driven n) refl (bits_in n (omega (arith, less)) k)
    where
      here : has_bit keep.driven n ≡ false → IsIn (kept_bit keep n ∷ kept_bits keep n) n
      here f = record { place = zero; register = kept_bit keep n; there = refl; offset = zero; bit = refl }

      later : IsIn (kept_bits keep n) k → IsIn (kept_bit keep n ∷ kept_bits keep n) k
      later h = record {
        place = suc h.place;
        register = h.register;
        there = h.there;
        offset = h.offset;
        bit = h.bit;
      }

      by : (b : Bool) → has_bit keep.driven n ≡ b
          → (k < n → is_driven ps text k ≡ false → IsIn (kept_bits keep n) k)
          → IsIn (if b then kept_bits keep n else kept_bit keep n ∷ kept_bits keep n) k
      by true f h = at (k == n) refl
        where
          at : (c : Bool) → (k == n) ≡ c → IsIn (kept_bits keep n) k
          at true e =
              let same : k ≡ n = is_equal k n e in
              absurd (true≢false (sym f ∙ is.driven n (omega (arith, less))
              ∙ ap (is_driven ps text) (sym same) ∙ free))
          at false e =
              let other : k ≡ n → ⊥ = λ s. grind (arith, nat_tests, e, s) in h (lower_one other) free
            where
              lower_one : (k ≡ n → ⊥) → k < n
              lower_one other = omega (arith, lower, other)
      by false f h = at (k == n) refl
        where
          at : (c : Bool) → (k == n) ≡ c → IsIn (kept_bit keep n ∷ kept_bits keep n) k
          at true e = subst (IsIn (kept_bit keep n ∷ kept_bits keep n)) (sym (is_equal k n e)) (here f)
          at false e =
              let other : k ≡ n → ⊥ = λ s. grind (arith, nat_tests, e, s) in
              later (h (lower_one other) free)
            where
              lower_one : (k ≡ n → ⊥) → k < n
              lower_one other = omega (arith, lower, other)

  -- ---- the number that they make

  abbrev Fit : List Kept → List ℕ → ℕ → Type 0
  Fit xs numbers r = (i : ℕ) (x : Kept) → slice_get xs i ≡ Some x → slice_index numbers (r + i) < 2 ^ x.width

  fit_behind : (x : Kept) (xs : List Kept) (numbers : List ℕ) (r : ℕ) → Fit (x ∷ xs) numbers r → Fit xs numbers (r + 1)
  fit_behind x xs numbers r h i y e =
      let same : r + suc i ≡ r + 1 + i = omega arith in
      subst (λ n. slice_index numbers n < 2 ^ y.width) same (h (suc i) y e)

  bits_small : (n : ℕ) (numbers : List ℕ) (r : ℕ) → Fit (kept_bits keep n) numbers r
      → bits_number keep n numbers r < 2 ^ n
  bits_small zero numbers r h = omega arith
  bits_small (suc n) numbers r h = by (has_bit keep.driven n) h (λ s f. bits_small n numbers s f)
    where
      by : (b : Bool) → Fit (if b then kept_bits keep n else kept_bit keep n ∷ kept_bits keep n) numbers r
          → ((s : ℕ) → Fit (kept_bits keep n) numbers s → bits_number keep n numbers s < 2 ^ n)
          → (if b then bits_number keep n numbers r
          else slice_index numbers r * 2 ^ n + bits_number keep n numbers (r + 1)) < 2 ^ suc n
      by true f rest = omega (arith, rest r f, pow-suc 2 n)
      by false f rest =
          let plain : r + 0 ≡ r = omega arith in
          let one : slice_index numbers r < 2 ^ 1 =
          subst (λ m. slice_index numbers m < 2 ^ 1) plain (f zero (kept_bit keep n) refl) in
          sum (slice_index numbers r) (bits_number keep n numbers (r + 1)) one
          (rest (r + 1) (fit_behind (kept_bit keep n) (kept_bits keep n) numbers r f))
        where
          sum : (a c : ℕ) → a < 2 ^ 1 → c < 2 ^ n → a * 2 ^ n + c < 2 ^ suc n
          sum zero c p q = omega (arith, q, pow-suc 2 n)
          sum (suc zero) c p q = omega (arith, q, pow-suc 2 n)
          sum (suc (suc a)) c p q = absurd (omega (arith, p))

  bits_back : (n : ℕ) (numbers : List ℕ) (r : ℕ) → Fit (kept_bits keep n) numbers r → (i : ℕ) (x : Kept)
      → slice_get (kept_bits keep n) i ≡ Some x
      → (k : ℕ) × (x.bits ≡ k ∷ []) × (k < n) × (bit_of (bits_number keep n numbers r) k ≡ slice_index numbers (r + i))
  bits_back zero numbers r h i x e = absurd (true≢false (ap is_none e))
  bits_back (suc n) numbers r h i x e =
      by (has_bit keep.driven n) h i e (λ s f j y g. bits_back n numbers s f j y g) (λ s f. bits_small n numbers s f)
    where
      Back : ℕ → ℕ → ℕ → Kept → ℕ → Type 0
      Back number m s y j =
          (k : ℕ) × (y.bits ≡ k ∷ []) × (k < m) × (bit_of number k ≡ slice_index numbers (s + j))

      by : (b : Bool) → Fit (if b then kept_bits keep n else kept_bit keep n ∷ kept_bits keep n) numbers r → (i : ℕ)
          → slice_get (if b then kept_bits keep n else kept_bit keep n ∷ kept_bits keep n) i ≡ Some x
          → ((s : ℕ) → Fit (kept_bits keep n) numbers s → (j : ℕ) (y : Kept) → slice_get (kept_bits keep n) j ≡ Some y
          → (k : ℕ) × (y.bits ≡ k ∷ []) × (k < n)
          × (bit_of (bits_number keep n numbers s) k ≡ slice_index numbers (s + j)))
          → ((s : ℕ) → Fit (kept_bits keep n) numbers s → bits_number keep n numbers s < 2 ^ n)
          → (k : ℕ) × (x.bits ≡ k ∷ []) × (k < suc n)
          × (bit_of (if b then bits_number keep n numbers r
          else slice_index numbers r * 2 ^ n + bits_number keep n numbers (r + 1)) k ≡ slice_index numbers (r + i))
      by true f j g rest small = let q = rest r f j x g in (q.0, q.1, omega (arith, q.2), q.3)
      by false f zero g rest small =
          let plain : r + 0 ≡ r = omega arith in
          let none : n - n ≡ 0 = omega arith in
          let one : slice_index numbers r < 2 =
          subst (λ m. slice_index numbers m < 2 ^ 1) plain (f zero (kept_bit keep n) refl) in
          let low = small (r + 1) (fit_behind (kept_bit keep n) (kept_bits keep n) numbers r f) in (
            n,
            sym (ap (λ (y : Kept). y.bits) (same_Some (kept_bit keep n) x g)),
            omega arith,
            bit_at_cat_high (slice_index numbers r) n (bits_number keep n numbers (r + 1)) n low (omega arith)
                ∙ ap (bit_of (slice_index numbers r)) none ∙ bit_at_lowest (slice_index numbers r) ∙ mod-eq_of_lt one
                ∙ ap (slice_index numbers) (sym plain),
          )
      by false f (suc j) g rest small =
          let q = rest (r + 1) (fit_behind (kept_bit keep n) (kept_bits keep n) numbers r f) j x g in
          let same : r + 1 + j ≡ r + suc j = omega arith in (
            q.0,
            q.1,
            omega (arith, q.2),
            bit_at_cat_low (slice_index numbers r) n (bits_number keep n numbers (r + 1)) q.0 q.2 ∙ q.3
                ∙ ap (slice_index numbers) same,
          )

  -- ---- one register for all

  module _ (whole : is_whole keep width ≡ true) where
    undriven : keep.driven % 2 ^ width ≡ 0
    undriven =
        is_equal (keep.driven % 2 ^ width) 0
        (and_left (keep.driven % 2 ^ width == 0)
        ((keep.known % 2 ^ width == 0) || (keep.known % 2 ^ width == ones width)) whole)

    whole_begins : (k : ℕ) → k < width → BeginsAs (whole_kept keep width).init k (last k)
    whole_begins k less =
        by (keep.known % 2 ^ width == 0) refl
      where
        second : (keep.known % 2 ^ width == 0) ≡ false → keep.known % 2 ^ width ≡ ones width
        second e =
            is_equal (keep.known % 2 ^ width) (ones width)
            (sym (ap (λ b. b || (keep.known % 2 ^ width == ones width)) e)
            ∙ and_right (keep.driven % 2 ^ width == 0)
            ((keep.known % 2 ^ width == 0) || (keep.known % 2 ^ width == ones width)) whole)

        by : (b : Bool) → (keep.known % 2 ^ width == 0) ≡ b
            → BeginsAs (if b then init.Free else init.Known (keep.value % 2 ^ width)) k (last k)
        by true e =
            is.begins k less
            ∙ ap (λ c. if c then Some (bit_of keep.value k) else None)
            (no_bit keep.known width k less (is_equal (keep.known % 2 ^ width) 0 e))
        by false e =
            is.begins k less
            ∙ ap (λ c. if c then Some (bit_of keep.value k) else None) (all_bits keep.known width k less (second e))
            ∙ ap Some (sym (bit_at_low width keep.value k less))

    whole_small : (n : ℕ) → (whole_kept keep width).init ≡ init.Known n → IsBelow width n
    whole_small n e = by (keep.known % 2 ^ width == 0) e
      where
        by : (b : Bool) → (if b then init.Free else init.Known (keep.value % 2 ^ width)) ≡ init.Known n → n < 2 ^ width
        by true f = absurd (true≢false (ap is_free f))
          where
            is_free : Init → Bool
            is_free init.Free = true
            is_free (init.Known x) = false
        by false f =
            subst (λ m. m < 2 ^ width) (known f) (mod_below keep.value (2 ^ width) (pow_pos width))
          where
            known : init.Known (keep.value % 2 ^ width) ≡ init.Known n → keep.value % 2 ^ width ≡ n
            known f = ap (λ i. elim_number i) f
              where
                elim_number : Init → ℕ
                elim_number (init.Known x) = x
                elim_number init.Free = 0

    whole_is : IsKept ps width text (whole_kept keep width)
    whole_is = record {
      some = some;
      few = omega arith;
      many = below_many width;
      within = λ j k e. (below_at width j k e).1;
      kept = λ j k e. let at = below_at width j k e in
          sym (is.driven k at.1) ∙ no_bit keep.driven width k at.1 undriven;
      begins = λ j k e. let at = below_at width j k e in
          subst (λ m. BeginsAs (whole_kept keep width).init m (last k)) (sym at.0) (whole_begins k at.1);
      small = λ n e. whole_small n e;
    }

  -- ---- both together

  kept_both : (b : Bool) → is_whole keep width ≡ b → (i : ℕ) (x : Kept)
      → slice_get (if b then whole_kept keep width ∷ [] else kept_bits keep width) i ≡ Some x → IsKept ps width text x
  kept_both true t zero x e = subst (IsKept ps width text) (same_Some (whole_kept keep width) x e) (whole_is t)
  kept_both true t (suc i) x e = absurd (true≢false (ap is_none e))
  kept_both false t i x e = bits_kept width (omega arith) i x e

  below_get : (n k : ℕ) → k < n → slice_get (below n) k ≡ Some k
  below_get zero k less = absurd (omega (arith, less))
  below_get (suc n) k less = by (k == n) refl (below_get n k)
    where
      front : (xs : List ℕ) (y j z : ℕ) → slice_get xs j ≡ Some z → slice_get (xs ++ y ∷ []) j ≡ Some z
      front [] y j z e = absurd (true≢false (ap is_none e))
      front (x ∷ xs) y zero z e = e
      front (x ∷ xs) y (suc j) z e = front xs y j z e

      at_end : (xs : List ℕ) (y : ℕ) → slice_get (xs ++ y ∷ []) (length xs) ≡ Some y
      at_end [] y = refl
      at_end (x ∷ xs) y = at_end xs y

      by : (c : Bool) → (k == n) ≡ c → (k < n → slice_get (below n) k ≡ Some k)
          → slice_get (below n ++ n ∷ []) k ≡ Some k
      by true e h =
          let same : length (below n) ≡ k = omega (arith, below_many n, is_equal k n e) in
          ap (slice_get (below n ++ n ∷ [])) (sym same) ∙ at_end (below n) n ∙ ap Some (sym (is_equal k n e))
      by false e h =
          let other : k ≡ n → ⊥ = λ s. grind (arith, nat_tests, e, s) in
          front (below n) n k k (h (lower_one other))
        where
          lower_one : (k ≡ n → ⊥) → k < n
          lower_one other = omega (arith, less, other)

  in_both : (b : Bool) → is_whole keep width ≡ b → (k : ℕ) → k < width → is_driven ps text k ≡ false
      → IsIn (if b then whole_kept keep width ∷ [] else kept_bits keep width) k
  in_both true t k less free = record {
    place = zero;
    register = whole_kept keep width;
    there = refl;
    offset = k;
    bit = below_get width k less;
  }
  in_both false t k less free = bits_in width (omega arith) k less free

  small_both : (b : Bool) → (numbers : List ℕ) (r : ℕ)
      → Fit (if b then whole_kept keep width ∷ [] else kept_bits keep width) numbers r
      → (if b then slice_index numbers r else bits_number keep width numbers r) < 2 ^ width
  small_both true numbers r h =
      let plain : r + 0 ≡ r = omega arith in
      subst (λ m. slice_index numbers m < 2 ^ width) plain (h zero (whole_kept keep width) refl)
  small_both false numbers r h = bits_small width numbers r h

  back_both : (b : Bool) → (numbers : List ℕ) (r : ℕ)
      → Fit (if b then whole_kept keep width ∷ [] else kept_bits keep width) numbers r → (i : ℕ) (x : Kept)
      → slice_get (if b then whole_kept keep width ∷ [] else kept_bits keep width) i ≡ Some x
      → gathered (if b then slice_index numbers r else bits_number keep width numbers r) x.bits
      ≡ slice_index numbers (r + i)
  back_both true numbers r h zero x e =
      let plain : r + 0 ≡ r = omega arith in
      ap (λ (y : Kept). gathered (slice_index numbers r) y.bits) (sym (same_Some (whole_kept keep width) x e))
      ∙ gathered_whole (slice_index numbers r) width (small_both true numbers r h)
      ∙ ap (slice_index numbers) (sym plain)
  back_both true numbers r h (suc i) x e = absurd (true≢false (ap is_none e))
  back_both false numbers r h i x e =
      let q = bits_back width numbers r h i x e in
      let none : bit_of (bits_number keep width numbers r) q.0 + 2 * 0 ≡ bit_of (bits_number keep width numbers r) q.0 =
      omega arith in
      ap (gathered (bits_number keep width numbers r)) q.1 ∙ none ∙ q.3

pub keep_bits : AllRegistersKeepBits
keep_bits ps width text keep some is = record {
  each = kept_both ps width text keep some is (is_whole keep width) refl;
  all = in_both ps width text keep some is (is_whole keep width) refl;
  small = small_both ps width text keep some is (is_whole keep width);
  back = back_both ps width text keep some is (is_whole keep width);
}
