-- Memories of a design that are kept as memories of the net.
use Rattle.std.specs.Prelude.{◌≡◌, refl, ℕ, zero, suc, ◌%◌, ◌<◌, ◌≤◌, ◌^◌, ◌==◌, List, [], ◌∷◌, Bool, true, false, not}
use Rattle.std.specs.Prelude.{◌&&◌, ◌||◌, Some, None, is_none, if◌then◌else◌, slice_get}
use Rattle.std.specs.List.{list_any}
use Rattle.std.proofs.Common.{ap, sym, ◌∙◌, arith, subst, true≢false}
use Rattle.std.proofs.lemmas.Bool.Decides.{nat_tests}
use Rattle.std.proofs.lemmas.Nat.{mod_below, pow_pos}
use Rattle.std.proofs.lemmas.Nat.Bits.{bit_at_ones, bit_at-lt, bit_at-zero, same_from_bits_below}
use Rattle.std.proofs.lemmas.Option.{same_Some}
use Rattle.fv_bits.specs.Bits.{ones}
use Rattle.fv_bits.proofs.SingleBits.{bit_at_low}
use Rattle.vl_size.specs.declared.decl.Decl.{Decl}
use Rattle.vl_mean.specs.Cells.{cells}
use Rattle.vl_mean.specs.Parts.{Part}
use Rattle.vl_mean.specs.Runs.{initial_writes, is_driven, last_value}
use Rattle.vl_mean.specs.Targets.{bit_of}
use Rattle.vl_flow_spec.proofs.Bools.{and_both, and_left, and_right, left_none, or_left, or_right, right_none}
use Rattle.vl_lower_spec.specs.Maps.{is_split, is_split_at, some_below}
use Rattle.vl_lower_spec.specs.Sources.{BeginsAs, below}
use Rattle.vl_lower_spec.proofs.Bits.{below_at}
use Rattle.vl_lower_cell_laws.specs.declared.keep.Keep.{Keep}
use Rattle.vl_lower_cell_laws.specs.Keeps.{IsIn, IsKeepOf, IsKept, Kept, RegistersKeepBits, has_bit, is_whole}
use Rattle.vl_lower_cell_laws.specs.Keeps.{kept_bits}
use Rattle.vl_lower_cell_laws.specs.Keeps.{registers_of, whole_kept}
use Rattle.vl_lower_cell_laws.proofs.KeepsWhole.{keep_bits}
use Rattle.vl_lower_cell_laws.specs.Entries.{is_memory}

-- ---- tests

pub untrue : (b : Bool) → not b ≡ true → b ≡ false
untrue true e = absurd (true≢false (sym e))
untrue false e = refl

none_below : (f : ℕ → Bool) (n : ℕ) → some_below f n ≡ false → (k : ℕ) → k < n → f k ≡ false
none_below f zero e k less = absurd (omega (arith, less))
none_below f (suc n) e k less =
    by (k == n) refl (none_below f n (right_none (f n) (some_below f n) e) k)
  where
    by : (c : Bool) → (k == n) ≡ c → (k < n → f k ≡ false) → f k ≡ false
    by true same h =
        let here : k ≡ n = grind (arith, nat_tests, same) in
        ap f here ∙ left_none (f n) (some_below f n) e
    by false other h = let lower : k < n = grind (arith, nat_tests, other, less) in h lower

none_any : (f : List ℕ → Bool) (ns : List (List ℕ)) → list_any f ns ≡ false → (j : ℕ) (n : List ℕ)
    → slice_get ns j ≡ Some n → f n ≡ false
none_any f [] e j n s = absurd (true≢false (ap is_none s))
none_any f (m ∷ ns) e zero n s = ap f (sym (same_Some m n s)) ∙ left_none (f m) (list_any f ns) e
none_any f (m ∷ ns) e (suc j) n s = none_any f ns (right_none (f m) (list_any f ns) e) j n s

-- ---- a number by its bits

no_one : (b : ℕ) → b < 2 → (b == 1) ≡ false → b ≡ 0
no_one zero p e = refl
no_one (suc zero) p e = absurd (true≢false e)
no_one (suc (suc b)) p e = absurd (omega (arith, p))

low_zero : (x w : ℕ) → ((k : ℕ) → k < w → has_bit x k ≡ false) → (x % 2 ^ w == 0) ≡ true
low_zero x w h =
    let same : x % 2 ^ w ≡ 0 =
    same_from_bits_below w (x % 2 ^ w) 0 (mod_below x (2 ^ w) (pow_pos w)) (pow_pos w) (λ k less.
    bit_at_low w x k less ∙ no_one (bit_of x k) (bit_at-lt x k) (h k less) ∙ sym (bit_at-zero k)) in
    grind (arith, nat_tests, same)

low_ones : (x w : ℕ) → ((k : ℕ) → k < w → has_bit x k ≡ true) → (x % 2 ^ w == ones w) ≡ true
low_ones x w h =
    let small : ones w < 2 ^ w = omega (arith, pow_pos w) in
    let same : x % 2 ^ w ≡ ones w =
    same_from_bits_below w (x % 2 ^ w) (ones w) (mod_below x (2 ^ w) (pow_pos w)) small (λ k less.
    let one : bit_of x k ≡ 1 = grind (arith, nat_tests, h k less) in
    bit_at_low w x k less ∙ one ∙ sym (bit_at_ones w k less)) in
    grind (arith, nat_tests, same)

-- ---- a word

module _ (ps : List Part) (d : Decl) (some : 1 ≤ d.width) (text : List ℕ) (keep : Keep)
    (is : IsKeepOf ps d.width text keep) (whole : is_split_at ps d text ≡ false) where
  abbrev unset : ℕ → Bool
  unset k = is_none (last_value (initial_writes ps) text k)

  at : (k : ℕ) → k < d.width
      → (is_driven ps text k || (unset k && not (unset 0)) || (not (unset k) && unset 0)) ≡ false
  at k less =
      none_below (λ k. is_driven ps text k || (unset k && not (unset 0)) || (not (unset k) && unset 0)) d.width whole k
      less

  pub word_kept : (k : ℕ) → k < d.width → is_driven ps text k ≡ false
  word_kept k less =
      by (is_driven ps text k) (unset k && not (unset 0)) (not (unset k) && unset 0) (at k less)
    where
      by : (a b c : Bool) → (a || b || c) ≡ false → a ≡ false
      by true true true e = e
      by true true false e = e
      by true false true e = e
      by true false false e = e
      by false b c e = refl

  alike : (k : ℕ) → k < d.width → unset k ≡ unset 0
  alike k less =
      by (is_driven ps text k) (unset k) (unset 0) (at k less)
    where
      by : (a b c : Bool) → (a || (b && not c) || (not b && c)) ≡ false → b ≡ c
      by a true true e = refl
      by a false false e = refl
      by true true false e = absurd (true≢false e)
      by true false true e = absurd (true≢false e)
      by false true false e = absurd (true≢false e)
      by false false true e = absurd (true≢false e)

  known_is : (k : ℕ) → k < d.width → unset k ≡ not (has_bit keep.known k)
  known_is k less = ap is_none (is.begins k less) ∙ by (has_bit keep.known k)
    where
      by : (b : Bool) → is_none (if b then Some (bit_of keep.value k) else None) ≡ not b
      by true = refl
      by false = refl

  same_known : (k : ℕ) → k < d.width → not (has_bit keep.known k) ≡ not (has_bit keep.known 0)
  same_known k less = sym (known_is k less) ∙ alike k less ∙ known_is 0 some

  is_one : is_whole keep d.width ≡ true
  is_one =
      and_both (keep.driven % 2 ^ d.width == 0)
      ((keep.known % 2 ^ d.width == 0) || (keep.known % 2 ^ d.width == ones d.width))
      (low_zero keep.driven d.width (λ k less. is.driven k less ∙ word_kept k less))
      (by (has_bit keep.known 0) refl)
    where
      turned : (b c : Bool) → not b ≡ not c → b ≡ c
      turned true true e = refl
      turned false false e = refl
      turned true false e = absurd (true≢false (sym e))
      turned false true e = absurd (true≢false e)

      by : (b : Bool) → has_bit keep.known 0 ≡ b
          → ((keep.known % 2 ^ d.width == 0) || (keep.known % 2 ^ d.width == ones d.width)) ≡ true
      by false e =
          or_left (keep.known % 2 ^ d.width == 0) (keep.known % 2 ^ d.width == ones d.width)
          (low_zero keep.known d.width (λ k less.
          turned (has_bit keep.known k) (has_bit keep.known 0) (same_known k less) ∙ e))
      by true e =
          or_right (keep.known % 2 ^ d.width == 0) (keep.known % 2 ^ d.width == ones d.width)
          (low_ones keep.known d.width (λ k less.
          turned (has_bit keep.known k) (has_bit keep.known 0) (same_known k less) ∙ e))

  one_register : registers_of keep d.width ≡ whole_kept keep d.width ∷ []
  one_register =
      ap (λ (b : Bool). if b then whole_kept keep d.width ∷ [] else kept_bits keep d.width) is_one

  bits_of : RegistersKeepBits ps d.width text keep
  bits_of = keep_bits ps d.width text keep some is

  pub word_is : IsKept ps d.width text (whole_kept keep d.width)
  word_is = bits_of.each 0 (whole_kept keep d.width) (ap (λ xs. slice_get xs 0) one_register)

  pub word_begins : (k : ℕ) → k < d.width
      → BeginsAs (whole_kept keep d.width).init k (last_value (initial_writes ps) text k)
  word_begins k less =
      let r : IsIn (registers_of keep d.width) k = bits_of.all k less (word_kept k less) in
      let same : whole_kept keep d.width ≡ r.register =
      only (whole_kept keep d.width) r.register r.place
      (sym (ap (λ xs. slice_get xs r.place) one_register) ∙ r.there) in
      let bit : slice_get (below d.width) r.offset ≡ Some k =
      ap (λ (x : Kept). slice_get x.bits r.offset) same ∙ r.bit in
      subst (λ j. BeginsAs (whole_kept keep d.width).init j (last_value (initial_writes ps) text k))
      (below_at d.width r.offset k bit).0 (word_is.begins r.offset k bit)
    where
      only : (x y : Kept) (j : ℕ) → slice_get (x ∷ []) j ≡ Some y → x ≡ y
      only x y zero e = same_Some x y e
      only x y (suc j) e = absurd (true≢false (ap is_none e))

-- ---- a memory

-- no word of it is split
pub words_whole : (ps : List Part) (d : Decl) → is_memory ps d ≡ true → (j : ℕ) (n : List ℕ)
    → slice_get (cells d) j ≡ Some n → is_split_at ps d n ≡ false
words_whole ps d e =
    let words = and_left (not (is_none d.words)) (not (is_split ps d)) e in
    let apart = untrue (is_split ps d) (and_right (not (is_none d.words)) (not (is_split ps d)) e) in
    none_any (is_split_at ps d) (cells d)
    (by (not (is_none d.words)) (list_any (is_split_at ps d) (cells d)) words apart)
  where
    by : (a b : Bool) → a ≡ true → (a && b) ≡ false → b ≡ false
    by true b t f = f
    by false b t f = absurd (true≢false (sym t))
