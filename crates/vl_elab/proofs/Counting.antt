-- Bits are counted mask by mask.
use Rattle.std.specs.Prelude.{◌≡◌, refl, ℕ, zero, suc, ◌+◌, ◌*◌, ◌-◌, ◌≤◌, List, [], ◌∷◌, ◌++◌, length, take, drop}
use Rattle.std.specs.Prelude.{true, false, Some, slice_get, is_none, if◌then◌else◌}
use Rattle.std.proofs.Common.{ap, sym, ◌∙◌, arith, true≢false}
use Rattle.std.proofs.lemmas.Option.{same_Some}
use Rattle.fv_bit_sets.specs.Cells.{is_set}
use Rattle.vl_size.specs.declared.decl.Decl.{Decl}
use Rattle.vl_mean.specs.Cells.{cells}
use Rattle.vl_flow_cells.specs.Numbered.{all_cells}
use Rattle.vl_elab.specs.Bits.{all_mask_bits, all_outside, bits_outside, mask_bits}

-- one bit more
pub one_more : (mask bit count : ℕ) → is_set mask bit ≡ false → count ≡ bits_outside mask bit
    → count + 1 ≡ bits_outside mask (bit + 1)
one_more mask bit count h e =
    let next : bit + 1 ≡ suc bit = omega arith in
    let is : bits_outside mask (suc bit) ≡ 1 + bits_outside mask bit
    = ap (λ b. (if b then 0 else 1) + bits_outside mask bit) h in
    omega (arith, e, is, ap (bits_outside mask) next)

pub none_more : (mask bit count : ℕ) → is_set mask bit ≡ true → count ≡ bits_outside mask bit
    → count ≡ bits_outside mask (bit + 1)
none_more mask bit count h e =
    let next : bit + 1 ≡ suc bit = omega arith in
    let is : bits_outside mask (suc bit) ≡ 0 + bits_outside mask bit
    = ap (λ b. (if b then 0 else 1) + bits_outside mask bit) h in
    omega (arith, e, is, ap (bits_outside mask) next)

-- what is left of a list from a place on
pub left_at : {A : Type 0} (xs : List A) (i : ℕ) (x : A) → slice_get xs i ≡ Some x → drop i xs ≡ x ∷ drop (i + 1) xs
left_at [] i x e = absurd (true≢false (ap is_none e))
left_at (y ∷ ys) zero x e = ap (λ z. z ∷ ys) (same_Some y x e)
left_at (y ∷ ys) (suc i) x e =
    let same : suc (i + 1) ≡ suc i + 1 = omega arith in left_at ys i x e ∙ ap (λ k. x ∷ drop k (y ∷ ys)) same

pub none_left : {A : Type 0} (xs : List A) (i : ℕ) → length xs ≤ i → drop i xs ≡ []
none_left [] zero h = refl
none_left [] (suc i) h = refl
none_left (x ∷ xs) zero h = absurd (omega (arith, h))
none_left (x ∷ xs) (suc i) h = none_left xs i (omega (arith, h))

-- one mask more
pub mask_more : (w : ℕ) (ms : List ℕ) (i m count bits whole : ℕ) → slice_get ms i ≡ Some m → bits ≡ bits_outside m w
    → count + all_outside w (drop i ms) ≡ whole → count + bits + all_outside w (drop (i + 1) ms) ≡ whole
mask_more w ms i m count bits whole e b h =
    let is : all_outside w (drop i ms) ≡ bits_outside m w + all_outside w (drop (i + 1) ms)
    = ap (all_outside w) (left_at ms i m e) in
    omega (arith, is, b, h)

pub masks_end : (w : ℕ) (ms : List ℕ) (i count whole : ℕ) → length ms ≤ i
    → count + all_outside w (drop i ms) ≡ whole → count ≡ whole
masks_end w ms i count whole l h =
    let is : all_outside w (drop i ms) ≡ 0 = ap (all_outside w) (none_left ms i l) in omega (arith, is, h)

-- ---- name by name

length_both : (xs ys : List (List ℕ)) → length (xs ++ ys) ≡ length xs + length ys
length_both [] ys = omega arith
length_both (x ∷ xs) ys = let e = length_both xs ys in omega (arith, e)

-- so many masks are left for the names from a place on
pub record AreLeft (ds : List Decl) (whole : List ℕ) (i : ℕ) (rest : List ℕ) (bits : ℕ) : Type 0 where
  pub size : length rest ≡ length (all_cells (drop i ds))
  pub sum : bits + all_mask_bits (drop i ds) rest ≡ all_mask_bits ds whole
  pub few : bits + 128 * length rest ≤ 128 * length whole

take_length : (n : ℕ) (ms : List ℕ) → n ≤ length ms → length (take n ms) ≡ n
take_length zero ms h = refl
take_length (suc n) [] h = absurd (omega (arith, h))
take_length (suc n) (m ∷ ms) h = let e = take_length n ms (omega (arith, h)) in omega (arith, e)

drop_length : (n : ℕ) (ms : List ℕ) → n ≤ length ms → length (drop n ms) + n ≡ length ms
drop_length zero ms h = omega arith
drop_length (suc n) [] h = absurd (omega (arith, h))
drop_length (suc n) (m ∷ ms) h = let e = drop_length n ms (omega (arith, h)) in omega (arith, e)

module _ (ds : List Decl) (whole : List ℕ) where
  pub starts : length whole ≡ length (all_cells ds) → AreLeft ds whole 0 whole 0
  starts h = record { size = h; sum = omega arith; few = omega arith }

  module _ (i : ℕ) (rest : List ℕ) (bits : ℕ) (d : Decl) (at : slice_get ds i ≡ Some d)
      (h : AreLeft ds whole i rest bits) where
    here : drop i ds ≡ d ∷ drop (i + 1) ds
    here = left_at ds i d at

    size_here : length rest ≡ length (cells d) + length (all_cells (drop (i + 1) ds))
    size_here = h.size ∙ ap (λ es. length (all_cells es)) here ∙ length_both (cells d) (all_cells (drop (i + 1) ds))

    pub room : length (cells d) ≤ length rest
    room = let s = size_here in omega (arith, s)

    pub own_few : (n : ℕ) → n ≡ length (cells d) → length (take n rest) ≡ n
    own_few n e = take_length n rest (let r = room in omega (arith, r, e))

    pub next : (n own : ℕ) → n ≡ length (cells d) → own ≡ mask_bits d.class d.width (take n rest)
        → own ≤ 128 * length (take n rest) → AreLeft ds whole (i + 1) (drop n rest) (bits + own)
    next n own e o f =
        let r : length (cells d) ≤ length rest = room in
        let taken : length (take n rest) ≡ n = own_few n e in
        let left : length (drop n rest) + n ≡ length rest = drop_length n rest (omega (arith, r, e)) in
        let s : length rest ≡ length (cells d) + length (all_cells (drop (i + 1) ds)) = size_here in
        let is : all_mask_bits (drop i ds) rest
        ≡ mask_bits d.class d.width (take n rest) + all_mask_bits (drop (i + 1) ds) (drop n rest)
        = ap (λ es. all_mask_bits es rest) here
        ∙ (λ j. mask_bits d.class d.width (take (sym e j) rest) + all_mask_bits (drop (i + 1) ds) (drop (sym e j) rest)) in
        let sum : bits + all_mask_bits (drop i ds) rest ≡ all_mask_bits ds whole = h.sum in
        let few : bits + 128 * length rest ≤ 128 * length whole = h.few in
        record {
          size = omega (arith, left, s, e);
          sum = omega (arith, is, sum, o);
          few = omega (arith, few, left, taken, f);
        }

  pub ends : (i : ℕ) (rest : List ℕ) (bits : ℕ) → length ds ≤ i → AreLeft ds whole i rest bits
      → bits ≡ all_mask_bits ds whole
  ends i rest bits l h =
      let is : all_mask_bits (drop i ds) rest ≡ 0 = ap (λ es. all_mask_bits es rest) (none_left ds i l) in
      let sum : bits + all_mask_bits (drop i ds) rest ≡ all_mask_bits ds whole = h.sum in
      omega (arith, is, sum)
