-- Numbers by their bits: parts, ends, single bits.
use Rattle.std.specs.Prelude.{◌≡◌, refl, ℕ, zero, suc, ◌+◌, ◌-◌, ◌*◌, ◌/◌, ◌%◌, ◌^◌, ◌<◌, ◌≤◌, Bool, true, false, not}
use Rattle.std.specs.Prelude.{◌&&◌, ◌||◌, List, [], ◌∷◌, ◌++◌, length, take, drop, map, replicate, bit_and, bit_or}
use Rattle.std.specs.Prelude.{bit_xor, nat_le}
use Rattle.std.proofs.Common.{ap, sym, ◌∙◌, arith, subst, inl, inr, ◌⊎◌}
use Rattle.std.proofs.lemmas.Nat.{pow_pos, pow-add, and_block, or_block, xor_block, shr_high, mod_low}
use Rattle.std.proofs.lemmas.Bool.{le-leb, lt-leb, cases_lt}
use Rattle.fv_bits.specs.Bits.{bit, ones, complement, low, part, joined, is_negative}
use Rattle.bb_aig.specs.Bits.{number, differ, pick, paired, top}

pub bit_small : (b : Bool) → bit b < 2
bit_small true = omega arith
bit_small false = omega arith

pub pow_next : (n : ℕ) → 2 ^ suc n ≡ 2 * 2 ^ n
pow_next n =
    let e : suc n ≡ 1 + n = omega arith in
    ap (λ k. 2 ^ k) e ∙ pow-add 2 1 n

pub number_fits : (xs : List Bool) → number xs < 2 ^ length xs
number_fits [] = omega arith
number_fits (x ∷ xs) = omega (arith, number_fits xs, bit_small x, pow_next (length xs))

-- the second list above the first
pub number-append : (xs ys : List Bool) → number (xs ++ ys) ≡ number xs + number ys * 2 ^ length xs
number-append [] ys = omega arith
number-append (x ∷ xs) ys =
    let p = pow_next (length xs) in
    let e : number ys * 2 ^ suc (length xs) ≡ 2 * (number ys * 2 ^ length xs) = ap (λ q. number ys * q) p
    ∙ omega arith in
    omega (arith, number-append xs ys, e)

pub number_zeros : (k : ℕ) → number (replicate k false) ≡ 0
number_zeros zero = refl
number_zeros (suc k) = omega (arith, number_zeros k)

pub number_ones : (k : ℕ) → number (replicate k true) + 1 ≡ 2 ^ k
number_ones zero = refl
number_ones (suc k) = omega (arith, number_ones k, pow_next k)

pub number_joined : (xs ys : List Bool) → number (ys ++ xs) ≡ joined (length ys) (number xs) (number ys)
number_joined xs ys = omega (arith, number-append ys xs)

pub number_low : (xs ys : List Bool) → number xs ≡ low (length xs) (number (xs ++ ys))
number_low xs ys =
    let e : number (xs ++ ys) ≡ number ys * 2 ^ length xs + number xs = omega (arith, number-append xs ys) in
    sym (mod_low (number ys) (length xs) (number xs) (number_fits xs)) ∙ ap (low (length xs)) (sym e)

pub number_high : (xs ys : List Bool) → number ys ≡ number (xs ++ ys) / 2 ^ length xs
number_high xs ys =
    let e : number (xs ++ ys) ≡ number ys * 2 ^ length xs + number xs = omega (arith, number-append xs ys) in
    sym (shr_high (number ys) (length xs) (number xs) (number_fits xs)) ∙ ap (λ n. n / 2 ^ length xs) (sym e)

-- each bit turned
pub number_not : (xs : List Bool) → number (map not xs) + number xs + 1 ≡ 2 ^ length xs
number_not [] = refl
number_not (true ∷ xs) = omega (arith, number_not xs, pow_next (length xs))
number_not (false ∷ xs) = omega (arith, number_not xs, pow_next (length xs))

pub number_complement : (xs : List Bool) → number (map not xs) ≡ complement (length xs) (number xs)
number_complement xs = omega (arith, number_not xs)

-- bit by bit
bits_of : (b : Bool) (n : ℕ) → bit b + 2 * n ≡ n * 2 ^ 1 + bit b
bits_of b n = omega arith

-- an operator of numbers that goes block by block is one of bits
paired_is : (f : Bool → Bool → Bool) (op : ℕ → ℕ → ℕ)
    → ((a b r s : ℕ) → r < 2 ^ 1 → s < 2 ^ 1 → op (a * 2 ^ 1 + r) (b * 2 ^ 1 + s) ≡ op a b * 2 ^ 1 + op r s)
    → op 0 0 ≡ 0 → ((x y : Bool) → bit (f x y) ≡ op (bit x) (bit y)) → (xs ys : List Bool) → length xs ≡ length ys
    → number (paired f xs ys) ≡ op (number xs) (number ys)
paired_is f op block none one [] [] h = sym none
paired_is f op block none one [] (y ∷ ys) h = absurd (omega arith)
paired_is f op block none one (x ∷ xs) [] h = absurd (omega arith)
paired_is f op block none one (x ∷ xs) (y ∷ ys) h =
    bits_of (f x y) (number (paired f xs ys))
    ∙ (λ i. paired_is f op block none one xs ys (omega arith) i * 2 ^ 1 + one x y i)
    ∙ sym (block (number xs) (number ys) (bit x) (bit y) (bit_small x) (bit_small y))
    ∙ (λ i. op (sym (bits_of x (number xs)) i) (sym (bits_of y (number ys)) i))

pub number_and : (xs ys : List Bool) → length xs ≡ length ys
    → number (paired (λ x y. x && y) xs ys) ≡ bit_and (number xs) (number ys)
number_and xs ys h = paired_is (λ x y. x && y) bit_and (and_block 1) refl one xs ys h
  where
    one : (x y : Bool) → bit (x && y) ≡ bit_and (bit x) (bit y)
    one true true = refl
    one true false = refl
    one false true = refl
    one false false = refl

pub number_or : (xs ys : List Bool) → length xs ≡ length ys
    → number (paired (λ x y. x || y) xs ys) ≡ bit_or (number xs) (number ys)
number_or xs ys h = paired_is (λ x y. x || y) bit_or (or_block 1) refl one xs ys h
  where
    one : (x y : Bool) → bit (x || y) ≡ bit_or (bit x) (bit y)
    one true true = refl
    one true false = refl
    one false true = refl
    one false false = refl

pub number_xor : (xs ys : List Bool) → length xs ≡ length ys
    → number (paired differ xs ys) ≡ bit_xor (number xs) (number ys)
number_xor xs ys h = paired_is differ bit_xor (xor_block 1) refl one xs ys h
  where
    one : (x y : Bool) → bit (differ x y) ≡ bit_xor (bit x) (bit y)
    one true true = refl
    one true false = refl
    one false true = refl
    one false false = refl

-- the highest bit is the sign
pub top_sign : (xs : List Bool) → 1 ≤ length xs → top xs ≡ is_negative (length xs) (number xs)
top_sign [] h = absurd (omega arith)
top_sign (true ∷ []) h = refl
top_sign (false ∷ []) h = refl
top_sign (x ∷ y ∷ ys) h =
    let n = length ys in
    let e : suc (suc n) - 1 ≡ suc n = omega arith in
    let f : suc n - 1 ≡ n = omega arith in
    let here : top (y ∷ ys) ≡ nat_le (2 ^ n) (number (y ∷ ys)) = top_sign (y ∷ ys) (omega arith)
    ∙ ap (λ k. nat_le (2 ^ k) (number (y ∷ ys))) f in
    here ∙ doubled x (2 ^ n) (number (y ∷ ys))
    ∙ ap (λ p. nat_le p (bit x + 2 * number (y ∷ ys))) (sym (pow_next n))
    ∙ ap (λ k. nat_le (2 ^ k) (bit x + 2 * number (y ∷ ys))) (sym e)
  where
    cases_le : (p n : ℕ) → (p ≤ n) ⊎ (n < p)
    cases_le p n = elim (cases_lt n p) [ inl h ↦ inr h | inr h ↦ inl h ]

    doubled : (x : Bool) (p n : ℕ) → nat_le p n ≡ nat_le (2 * p) (bit x + 2 * n)
    doubled x p n = elim (cases_le p n) [
      | inl h ↦ le-leb p n h ∙ sym (le-leb (2 * p) (bit x + 2 * n) (omega arith))
      | inr h ↦ lt-leb p n h ∙ sym (lt-leb (2 * p) (bit x + 2 * n) (omega (arith, bit_small x)))
    ]
