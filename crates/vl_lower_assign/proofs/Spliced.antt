-- Bits of a vector after others were put in, against the parts that it is made of.
use Rattle.std.specs.Prelude.{◌≡◌, refl, ℕ, zero, suc, ◌+◌, ◌-◌, ◌*◌, ◌/◌, ◌%◌, ◌^◌, ◌<◌, ◌≤◌, Bool, true, false}
use Rattle.std.specs.Prelude.{nat_lt, if◌then◌else◌, ℤ, pos, negsuc, ◌+ℤ◌}
use Rattle.std.proofs.Common.{ap, sym, ◌∙◌, arith, ◌⊎◌, inl, inr}
use Rattle.std.proofs.Math.Nat.{mul-le-mul_right, mod-eq_of_lt, div-eq_of_lt}
use Rattle.std.proofs.Math.Pow.{shr_lt}
use Rattle.std.proofs.lemmas.Bool.{cases_lt}
use Rattle.std.proofs.lemmas.Bool.Decides.{nat_tests}
use Rattle.std.proofs.lemmas.Int.{ints}
use Rattle.std.proofs.lemmas.Nat.{pow_pos, pow-add, mod_below, shr_split, shr-shr}
use Rattle.std.proofs.lemmas.Nat.Bits.{bit_at_cat_low, bit_at_cat_high, same_from_bits_below}
use Rattle.fv_bits.specs.Bits.{joined, low, part}
use Rattle.vl_mean.specs.Targets.{bit_of, with_bit}
use Rattle.vl_flow_spec.proofs.Puts.{bit_here, bit_there, with_bit_fits}
use Rattle.vl_lower_assign.specs.Overlap.{IsOverlap}
use Rattle.vl_lower_assign.specs.Puts.{put_bit, put_bits}

small : (y n : ℕ) → bit_of y n < 2
small y n = omega arith

-- ---- one bit

other_bit : (w : ℕ) (q : ℤ) (b x j : ℕ) → b < 2 → (pos j ≡ q → ⊥) → bit_of (put_bit w q b x) j ≡ bit_of x j
other_bit w (negsuc k) b x j h apart = refl
other_bit w (pos k) b x j h apart = by (nat_lt k w)
  where
    by : (t : Bool) → bit_of (if t then with_bit x k b else x) j ≡ bit_of x j
    by true = bit_there x k b j h (λ e. apart (ap pos e))
    by false = refl

this_bit : (w k b x : ℕ) → b < 2 → k < w → bit_of (put_bit w (pos k) b x) k ≡ b
this_bit w k b x h below = by (nat_lt k w) refl
  where
    by : (t : Bool) → nat_lt k w ≡ t → bit_of (if t then with_bit x k b else x) k ≡ b
    by true e = bit_here x k b h
    by false e = let past : w ≤ k = grind (arith, nat_tests, e) in absurd (omega (arith, below, past))

bit_fits : (w : ℕ) (q : ℤ) (b x : ℕ) → b < 2 → x < 2 ^ w → put_bit w q b x < 2 ^ w
bit_fits w (negsuc k) b x h fits = fits
bit_fits w (pos k) b x h fits = by (nat_lt k w) refl
  where
    by : (t : Bool) → nat_lt k w ≡ t → (if t then with_bit x k b else x) < 2 ^ w
    by true e = let below : k < w = grind (arith, nat_tests, e) in with_bit_fits x k b w fits below h
    by false e = fits

-- ---- so many

pub put_fits : (n w : ℕ) (p : ℤ) (y x : ℕ) → x < 2 ^ w → put_bits n w p y x < 2 ^ w
put_fits zero w p y x fits = fits
put_fits (suc n) w p y x fits =
    put_fits n w p y (put_bit w (p +ℤ pos n) (bit_of y n) x) (bit_fits w (p +ℤ pos n) (bit_of y n) x (small y n) fits)

pub outside : (n w : ℕ) (p : ℤ) (y x j : ℕ) → ((i : ℕ) → i < n → pos j ≡ p +ℤ pos i → ⊥)
    → bit_of (put_bits n w p y x) j ≡ bit_of x j
outside zero w p y x j apart = refl
outside (suc n) w p y x j apart =
    outside n w p y (put_bit w (p +ℤ pos n) (bit_of y n) x) j (λ i less. apart i (omega (arith, less)))
    ∙ other_bit w (p +ℤ pos n) (bit_of y n) x j (small y n) (apart n (omega arith))

pub inside : (n w : ℕ) (p : ℤ) (y x j i : ℕ) → j < w → i < n → pos j ≡ p +ℤ pos i → bit_of
    (put_bits n w p y x) j ≡ bit_of y i
inside zero w p y x j i below less e = absurd (omega (arith, less))
inside (suc n) w p y x j i below less e = by (cases_lt i n) (λ l. inside n w p y _ j i below l e)
  where
    here : i ≡ n → bit_of (put_bit w (p +ℤ pos n) (bit_of y n) x) j ≡ bit_of y i
    here same =
        let at : pos j ≡ p +ℤ pos n = e ∙ ap (λ k. p +ℤ pos k) same in
        ap (λ q. bit_of (put_bit w q (bit_of y n) x) j) (sym at) ∙ this_bit w j (bit_of y n) x (small y n) below
        ∙ ap (bit_of y) (sym same)

    by : (i < n) ⊎ (n ≤ i) → (i < n → bit_of (put_bits n w p y (put_bit w (p +ℤ pos n) (bit_of y n) x)) j ≡ bit_of y i)
        → bit_of (put_bits (suc n) w p y x) j ≡ bit_of y i
    by (inl l) again = again l
    by (inr l) again =
        let same : i ≡ n = omega (arith, less, l) in
        outside n w p y (put_bit w (p +ℤ pos n) (bit_of y n) x) j
        (λ k low f. let differ : k ≡ i = omega (arith, ints, e, f) in omega (arith, low, same, differ))
        ∙ here same

-- ---- the parts

pub untouched : (n w : ℕ) (p : ℤ) (y x : ℕ) → x < 2 ^ w
    → ((j i : ℕ) → j < w → i < n → pos j ≡ p +ℤ pos i → ⊥) → x ≡ put_bits n w p y x
untouched n w p y x fits none =
    same_from_bits_below w x (put_bits n w p y x) fits (put_fits n w p y x fits)
    (λ j below. sym (outside n w p y x j (λ i less e. none j i below less e)))

low_fits : (z c : ℕ) → low c z < 2 ^ c
low_fits z c = mod_below z (2 ^ c) (pow_pos c)

bit_of_low : (z c k : ℕ) → k < c → bit_of (low c z) k ≡ bit_of z k
bit_of_low z c k less = sym (bit_at_cat_low (z / 2 ^ c) c (z % 2 ^ c) k less) ∙ ap (λ n. bit_of n k) (shr_split z c)

bit_of_high : (z s k : ℕ) → bit_of (z / 2 ^ s) k ≡ bit_of z (s + k)
bit_of_high z s k = ap (λ n. n % 2) (shr-shr z s k)

join_fits : (c a m l : ℕ) → m < 2 ^ c → l < 2 ^ a → joined a m l < 2 ^ (c + a)
join_fits c a m l h k =
    let p : suc m * 2 ^ a ≤ 2 ^ c * 2 ^ a = mul-le-mul_right (2 ^ a) h in
    let e : 2 ^ (c + a) ≡ 2 ^ c * 2 ^ a = pow-add 2 c a in
    omega (arith, p, e, k)

parts_fit : (w a x m : ℕ) → a ≤ w → x < 2 ^ w → m < 2 ^ a → joined a (x / 2 ^ a) m < 2 ^ w
parts_fit w a x m within fits h =
    let d : (w - a) + a ≡ w = omega (arith, within) in
    let f : x < 2 ^ ((w - a) + a) = omega (arith, fits, ap (λ j. 2 ^ j) d) in
    omega (arith, join_fits (w - a) a (x / 2 ^ a) m (shr_lt (w - a) a f) h, ap (λ j. 2 ^ j) d)

-- the number that is made of three parts
abbrev made : ℕ → ℕ → ℕ → ℕ → ℕ → ℕ
made y x from past skip = joined from (part skip (past - from) y) (low from x)

made_fits : (y x from past skip : ℕ) → from < past → made y x from past skip < 2 ^ past
made_fits y x from past skip some =
    let d : (past - from) + from ≡ past = omega (arith, some) in
    omega (
      arith,
      join_fits (past - from) from (part skip (past - from) y) (low from x) (low_fits (y / 2 ^ skip) (past - from))
          (low_fits x from),
      ap (λ j. 2 ^ j) d,
    )

module _ (n w : ℕ) (p : ℤ) (y x from past skip : ℕ) (o : IsOverlap n w p from past skip) where
  below_bit : (j : ℕ) → j < w → j < past → (j < from) ⊎ (from ≤ j)
      → bit_of (made y x from past skip) j ≡ bit_of (put_bits n w p y x) j
  below_bit j less under (inl l) =
      bit_at_cat_low (part skip (past - from) y) from (low from x) j l ∙ bit_of_low x from j l
      ∙ sym (outside n w p y x j (λ i few e. let r = o.each j i less few e in omega (arith, r.0, l)))
  below_bit j less under (inr l) =
      let k = j - from in
      let few : k < past - from = omega (arith, under, l) in
      let index : skip + k < n = omega (arith, few, o.enough) in
      let at : pos j ≡ p +ℤ pos (skip + k) = omega (arith, ints, o.place, l) in
      bit_at_cat_high (part skip (past - from) y) from (low from x) j (low_fits x from) l
      ∙ bit_of_low (y / 2 ^ skip) (past - from) k few ∙ bit_of_high y skip k
      ∙ sym (inside n w p y x j (skip + k) less index at)

  each_bit : (j : ℕ) → j < w → (j < past) ⊎ (past ≤ j)
      → bit_of (joined past (x / 2 ^ past) (made y x from past skip)) j ≡ bit_of (put_bits n w p y x) j
  each_bit j less (inl l) =
      bit_at_cat_low (x / 2 ^ past) past (made y x from past skip) j l ∙ below_bit j less l (cases_lt j from)
  each_bit j less (inr l) =
      let here : past + (j - past) ≡ j = omega (arith, l) in
      bit_at_cat_high (x / 2 ^ past) past (made y x from past skip) j (made_fits y x from past skip o.some) l
      ∙ bit_of_high x past (j - past) ∙ ap (bit_of x) here
      ∙ sym (outside n w p y x j (λ i few e. let r = o.each j i less few e in omega (arith, r.1, l)))

pub spliced : (n w : ℕ) (p : ℤ) (y x from past skip : ℕ) → x < 2 ^ w → IsOverlap n w p from past skip
    → joined past (x / 2 ^ past) (made y x from past skip) ≡ put_bits n w p y x
spliced n w p y x from past skip fits o =
    same_from_bits_below w (joined past (x / 2 ^ past) (made y x from past skip)) (put_bits n w p y x)
    (parts_fit w past x (made y x from past skip) o.within fits (made_fits y x from past skip o.some))
    (put_fits n w p y x fits) (λ j less. each_bit n w p y x from past skip o j less (cases_lt j past))

-- nothing in front of it, or behind it
pub alone : (m x : ℕ) → m ≡ joined 0 m (low 0 x)
alone m x = omega arith

pub nothing_above : (w x m : ℕ) → x < 2 ^ w → m ≡ joined w (x / 2 ^ w) m
nothing_above w x m fits = let none : x / 2 ^ w ≡ 0 = div-eq_of_lt fits in omega (arith, ap (λ q. q * 2 ^ w) none)

-- numbers of the parts that a slice takes
pub lowest : (c x : ℕ) → part 0 c x ≡ low c x
lowest c x = let one : x / 2 ^ 0 ≡ x = omega arith in ap (low c) one

pub whole_part : (w x : ℕ) → x < 2 ^ w → x ≡ part 0 w x
whole_part w x fits = sym (lowest w x ∙ mod-eq_of_lt fits)

pub highest : (w c x : ℕ) → c ≤ w → x < 2 ^ w → part c (w - c) x ≡ x / 2 ^ c
highest w c x within fits =
    let d : (w - c) + c ≡ w = omega (arith, within) in
    let f : x < 2 ^ ((w - c) + c) = omega (arith, fits, ap (λ j. 2 ^ j) d) in mod-eq_of_lt (shr_lt (w - c) c f)
