-- Memories that are kept as such are those whose words take one register each.
use Rattle.std.specs.Prelude.{◌≡◌, refl, ℕ, zero, suc, ◌+◌, ◌%◌, ◌<◌, ◌≤◌, ◌^◌, ◌==◌, List, [], ◌∷◌, Bool}
use Rattle.std.specs.Prelude.{true, false, not, ◌&&◌, ◌||◌, Some, None, is_none, if◌then◌else◌, slice_get}
use Rattle.std.specs.List.{list_any}
use Rattle.std.proofs.Common.{ap, sym, ◌∙◌, arith, subst, true≢false}
use Rattle.std.proofs.lemmas.Bool.Decides.{nat_tests}
use Rattle.std.proofs.lemmas.Nat.{mod_below, pow_pos}
use Rattle.std.proofs.lemmas.Nat.Bits.{bit_at_ones, bit_at-lt, bit_at-zero, same_from_bits_below}
use Rattle.fv_bits.specs.Bits.{ones}
use Rattle.fv_bits.proofs.SingleBits.{bit_at_low}
use Rattle.vl_size.specs.declared.decl.Decl.{Decl}
use Rattle.vl_mean.specs.Cells.{cells}
use Rattle.vl_mean.specs.Parts.{Part}
use Rattle.vl_mean.specs.Runs.{initial_writes, is_driven, last_value}
use Rattle.vl_mean.specs.Targets.{bit_of}
use Rattle.vl_flow_spec.proofs.Bools.{and_both, and_left, and_right, left_none, or_left, or_right, right_none}
use Rattle.vl_lower_spec.specs.Maps.{is_split_at, some_below}
use Rattle.vl_lower_cell_laws.specs.declared.keep.Keep.{Keep}
use Rattle.vl_lower_cell_laws.specs.Keeps.{IsKeepOf, has_bit, is_whole}
use Rattle.vl_lower_cell_laws.specs.Entries.{is_memory}
use Rattle.vl_lower_cell_laws.specs.Listing.{Keeping}
use Rattle.vl_lower_cell_laws.proofs.Memories.{word_kept}
use Rattle.vl_lower.specs.Design.{are_whole, is_stored}

is_equal : (a b : ℕ) → (a == b) ≡ true → a ≡ b
is_equal a b e = grind (arith, nat_tests, e)

no_bit : (x w k : ℕ) → k < w → x % 2 ^ w ≡ 0 → has_bit x k ≡ false
no_bit x w k less e =
    let bit : bit_of x k ≡ 0 =
    sym (bit_at_low w x k less) ∙ ap (λ n. bit_of n k) e ∙ bit_at-zero k in
    ap (λ b. b == 1) bit

all_bits : (x w k : ℕ) → k < w → x % 2 ^ w ≡ ones w → has_bit x k ≡ true
all_bits x w k less e =
    let bit : bit_of x k ≡ 1 =
    sym (bit_at_low w x k less) ∙ ap (λ n. bit_of n k) e ∙ bit_at_ones w k less in
    ap (λ b. b == 1) bit

-- a number whose lowest bits are those of another one
low_is : (x w y : ℕ) → y < 2 ^ w → ((k : ℕ) → k < w → bit_of x k ≡ bit_of y k) → (x % 2 ^ w == y) ≡ true
low_is x w y small h =
    let same : x % 2 ^ w ≡ y =
    same_from_bits_below w (x % 2 ^ w) y (mod_below x (2 ^ w) (pow_pos w)) small (λ k less.
    bit_at_low w x k less ∙ h k less) in
    grind (arith, nat_tests, same)

bit_none : (x k : ℕ) → has_bit x k ≡ false → bit_of x k ≡ bit_of 0 k
bit_none x k e = by (bit_of x k) (bit_at-lt x k) e ∙ sym (bit_at-zero k)
  where
    by : (b : ℕ) → b < 2 → (b == 1) ≡ false → b ≡ 0
    by zero p f = refl
    by (suc zero) p f = absurd (true≢false f)
    by (suc (suc b)) p f = absurd (omega (arith, p))

bit_one : (x w k : ℕ) → k < w → has_bit x k ≡ true → bit_of x k ≡ bit_of (ones w) k
bit_one x w k less e = let one : bit_of x k ≡ 1 = grind (arith, nat_tests, e) in one ∙ sym (bit_at_ones w k less)

none_found : (f : ℕ → Bool) (n : ℕ) → ((k : ℕ) → k < n → f k ≡ false) → some_below f n ≡ false
none_found f zero h = refl
none_found f (suc n) h =
    let here = h n (omega arith) in
    let later = none_found f n (λ k less. h k (omega (arith, less))) in
    (λ i. here i || later i)

none_below : (f : ℕ → Bool) (n : ℕ) → some_below f n ≡ false → (k : ℕ) → k < n → f k ≡ false
none_below f zero e k less = absurd (omega (arith, less))
none_below f (suc n) e k less =
    by (k == n) refl (none_below f n (right_none (f n) (some_below f n) e) k)
  where
    by : (c : Bool) → (k == n) ≡ c → (k < n → f k ≡ false) → f k ≡ false
    by true same h = ap f (is_equal k n same) ∙ left_none (f n) (some_below f n) e
    by false other h = let lower : k < n = grind (arith, nat_tests, other, less) in h lower

-- ---- a word

module _ (ps : List Part) (d : Decl) (text : List ℕ) (keep : Keep) (some : 1 ≤ d.width)
    (is : IsKeepOf ps d.width text keep) where
  abbrev unset : ℕ → Bool
  unset k = is_none (last_value (initial_writes ps) text k)

  known_is : (k : ℕ) → k < d.width → unset k ≡ not (has_bit keep.known k)
  known_is k less = ap is_none (is.begins k less) ∙ by (has_bit keep.known k)
    where
      by : (b : Bool) → is_none (if b then Some (bit_of keep.value k) else None) ≡ not b
      by true = refl
      by false = refl

  -- each bit is known, or none is
  same_known : is_whole keep d.width ≡ true → (k : ℕ) → k < d.width → has_bit keep.known k ≡ has_bit keep.known 0
  same_known whole k less = by (keep.known % 2 ^ d.width == 0) refl
    where
      second : (keep.known % 2 ^ d.width == 0) ≡ false → keep.known % 2 ^ d.width ≡ ones d.width
      second e =
          is_equal (keep.known % 2 ^ d.width) (ones d.width)
          (sym (ap (λ b. b || (keep.known % 2 ^ d.width == ones d.width)) e)
          ∙ and_right (keep.driven % 2 ^ d.width == 0)
          ((keep.known % 2 ^ d.width == 0) || (keep.known % 2 ^ d.width == ones d.width)) whole)

      by : (b : Bool) → (keep.known % 2 ^ d.width == 0) ≡ b → has_bit keep.known k ≡ has_bit keep.known 0
      by true e =
          let none = is_equal (keep.known % 2 ^ d.width) 0 e in
          no_bit keep.known d.width k less none ∙ sym (no_bit keep.known d.width 0 some none)
      by false e =
          all_bits keep.known d.width k less (second e) ∙ sym (all_bits keep.known d.width 0 some (second e))

  unsplit : is_whole keep d.width ≡ true → is_split_at ps d text ≡ false
  unsplit whole =
      none_found (λ k. is_driven ps text k || (unset k && not (unset 0)) || (not (unset k) && unset 0)) d.width at
    where
      undriven : keep.driven % 2 ^ d.width ≡ 0
      undriven =
          is_equal (keep.driven % 2 ^ d.width) 0
          (and_left (keep.driven % 2 ^ d.width == 0)
          ((keep.known % 2 ^ d.width == 0) || (keep.known % 2 ^ d.width == ones d.width)) whole)

      alike : (a b c : Bool) → a ≡ false → b ≡ c → (a || (b && not c) || (not b && c)) ≡ false
      alike false true true e f = refl
      alike false false false e f = refl
      alike false true false e f = absurd (true≢false f)
      alike false false true e f = absurd (true≢false (sym f))
      alike true b c e f = absurd (true≢false e)

      at : (k : ℕ) → k < d.width
          → (is_driven ps text k || (unset k && not (unset 0)) || (not (unset k) && unset 0)) ≡ false
      at k less =
          alike (is_driven ps text k) (unset k) (unset 0)
          (sym (is.driven k less) ∙ no_bit keep.driven d.width k less undriven)
          (known_is k less ∙ ap not (same_known whole k less) ∙ sym (known_is 0 some))

  -- and where it isn't split, one register serves
  module _ (unsplit_is : is_split_at ps d text ≡ false) where
    at_each : (k : ℕ) → k < d.width
        → (is_driven ps text k || (unset k && not (unset 0)) || (not (unset k) && unset 0)) ≡ false
    at_each k less =
        none_below (λ k. is_driven ps text k || (unset k && not (unset 0)) || (not (unset k) && unset 0)) d.width
        unsplit_is k less

    alike_each : (k : ℕ) → k < d.width → has_bit keep.known k ≡ has_bit keep.known 0
    alike_each k less =
        turned (has_bit keep.known k) (has_bit keep.known 0)
        (sym (known_is k less) ∙ by (is_driven ps text k) (unset k) (unset 0) (at_each k less) ∙ known_is 0 some)
      where
        turned : (b c : Bool) → not b ≡ not c → b ≡ c
        turned true true e = refl
        turned false false e = refl
        turned true false e = absurd (true≢false (sym e))
        turned false true e = absurd (true≢false e)

        by : (a b c : Bool) → (a || (b && not c) || (not b && c)) ≡ false → b ≡ c
        by a true true e = refl
        by a false false e = refl
        by true true false e = absurd (true≢false e)
        by true false true e = absurd (true≢false e)
        by false true false e = absurd (true≢false e)
        by false false true e = absurd (true≢false e)

    one_serves : is_whole keep d.width ≡ true
    one_serves =
        and_both (keep.driven % 2 ^ d.width == 0)
        ((keep.known % 2 ^ d.width == 0) || (keep.known % 2 ^ d.width == ones d.width))
        (low_is keep.driven d.width 0 (pow_pos d.width) (λ k less.
        bit_none keep.driven k (is.driven k less ∙ word_kept ps d some text keep is unsplit_is k less)))
        (by (has_bit keep.known 0) refl)
      where
        by : (b : Bool) → has_bit keep.known 0 ≡ b
            → ((keep.known % 2 ^ d.width == 0) || (keep.known % 2 ^ d.width == ones d.width)) ≡ true
        by false e =
            or_left (keep.known % 2 ^ d.width == 0) (keep.known % 2 ^ d.width == ones d.width)
            (low_is keep.known d.width 0 (pow_pos d.width) (λ k less.
            bit_none keep.known k (alike_each k less ∙ e)))
        by true e =
            or_right (keep.known % 2 ^ d.width == 0) (keep.known % 2 ^ d.width == ones d.width)
            (low_is keep.known d.width (ones d.width) (omega (arith, pow_pos d.width)) (λ k less.
            bit_one keep.known d.width k less (alike_each k less ∙ e)))

  word_split : is_split_at ps d text ≡ not (is_whole keep d.width)
  word_split = by (is_split_at ps d text) (is_whole keep d.width) refl refl
    where
      by : (b c : Bool) → is_split_at ps d text ≡ b → is_whole keep d.width ≡ c → is_split_at ps d text ≡ not c
      by true true e f = unsplit f
      by true false e f = e
      by false true e f = e
      by false false e f = absurd (true≢false (sym (one_serves e) ∙ f))

-- ---- a memory

any_split : (ps : List Part) (d : Decl) (keep : Keeping) (first : ℕ) (texts : List (List ℕ)) → 1 ≤ d.width
    → ((j : ℕ) (n : List ℕ) → slice_get texts j ≡ Some n → IsKeepOf ps d.width n (keep (first + j)))
    → list_any (is_split_at ps d) texts ≡ not (are_whole keep d.width first texts)
any_split ps d keep first [] some h = refl
any_split ps d keep first (t ∷ ts) some h =
    let here : first + 0 ≡ first = omega arith in
    let own : IsKeepOf ps d.width t (keep first) = subst (λ k. IsKeepOf ps d.width t (keep k)) here (h 0 t refl) in
    let rest = any_split ps d keep (first + 1) ts some (λ j n e.
    let next : first + suc j ≡ first + 1 + j = omega arith in
    subst (λ k. IsKeepOf ps d.width n (keep k)) next (h (suc j) n e)) in
    (λ i. word_split ps d t (keep first) some own i || rest i)
    ∙ turned (is_whole (keep first) d.width) (are_whole keep d.width (first + 1) ts)
  where
    turned : (a b : Bool) → (not a || not b) ≡ not (a && b)
    turned true b = refl
    turned false b = refl

-- a memory of the net is what the keeps of its words tell
pub memory_stored : (ps : List Part) (d : Decl) (keep : Keeping) (first : ℕ) → 1 ≤ d.width
    → (is_none d.words ≡ false → (j : ℕ) (n : List ℕ) → slice_get (cells d) j ≡ Some n
    → IsKeepOf ps d.width n (keep (first + j)))
    → is_memory ps d ≡ is_stored keep d first
memory_stored ps d keep first some h = by (is_none d.words) refl
  where
    by : (b : Bool) → is_none d.words ≡ b
        → (not b && not (not b && list_any (is_split_at ps d) (cells d)))
        ≡ (not b && are_whole keep d.width first (cells d))
    by true e = refl
    by false e =
        ap not (any_split ps d keep first (cells d) some (h e)) ∙ twice (are_whole keep d.width first (cells d))
      where
        twice : (b : Bool) → not (not b) ≡ b
        twice true = refl
        twice false = refl
