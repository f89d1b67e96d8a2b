-- Sums and products of numbers by their bits.
use Rattle.std.specs.Prelude.{◌≡◌, refl, ℕ, zero, suc, ◌+◌, ◌-◌, ◌*◌, ◌/◌, ◌%◌, ◌^◌, ◌<◌, ◌≤◌, Bool, true, false, not}
use Rattle.std.specs.Prelude.{◌&&◌, ◌||◌, List, [], ◌∷◌, ◌++◌, length, take, drop, map, replicate}
use Rattle.std.proofs.Common.{ap, sym, ◌∙◌, arith, subst}
use Rattle.std.proofs.lemmas.Nat.{mod_low, mul-mod_first, mul-mod_second}
use Rattle.std.proofs.lemmas.List.{length-map, length-replicate}
use Rattle.std.proofs.Math.Nat.{mod-eq_of_lt, mod-add-mod, add-mod-mod, mul_assoc}
use Rattle.fv_bits.specs.Bits.{bit, low, sum, difference, product}
use Rattle.bb_aig.specs.Bits.{number, differ, pick, paired, summed, carried, add_bits, mul_bits, moved_up}
use Rattle.bb_aig.proofs.Numbers.{pow_next, number_fits, number_not, number_zeros}
use Rattle.bb_aig.proofs.Moves.{number_moved_up, length-moved_up}

full : (a b c : Bool) → bit (summed a b c) + 2 * bit (carried a b c) ≡ bit a + bit b + bit c
full true true true = refl
full true true false = refl
full true false true = refl
full true false false = refl
full false true true = refl
full false true false = refl
full false false true = refl
full false false false = refl

pub length-add : (c : Bool) (xs ys : List Bool) → length ys ≡ length xs → length (add_bits c xs ys) ≡ length xs
length-add c [] ys h = refl
length-add c (x ∷ xs) [] h = absurd (omega arith)
length-add c (x ∷ xs) (y ∷ ys) h = omega (arith, length-add (carried x y c) xs ys (omega arith))

-- the carry out of the highest bit
abbrev over : Bool → List Bool → List Bool → Bool
over c (x ∷ xs) (y ∷ ys) = over (carried x y c) xs ys
over c xs ys = c

add_whole : (c : Bool) (xs ys : List Bool) → length ys ≡ length xs
    → bit (over c xs ys) * 2 ^ length xs + number (add_bits c xs ys) ≡ number xs + number ys + bit c
add_whole c [] [] h = omega arith
add_whole c [] (y ∷ ys) h = absurd (omega arith)
add_whole c (x ∷ xs) [] h = absurd (omega arith)
add_whole c (x ∷ xs) (y ∷ ys) h =
    let d = carried x y c in
    let k = bit (over d xs ys) in
    let e : k * 2 ^ suc (length xs) ≡ 2 * (k * 2 ^ length xs) = ap (λ q. k * q) (pow_next (length xs)) ∙ omega arith in
    omega (arith, add_whole d xs ys (omega arith), full x y c, e)

pub number_add : (c : Bool) (xs ys : List Bool) → length ys ≡ length xs
    → number (add_bits c xs ys) ≡ low (length xs) (number xs + number ys + bit c)
number_add c xs ys h =
    let w = length xs in
    let P : ℕ → Type 0 = λ k. number (add_bits c xs ys) < 2 ^ k in
    let fits = subst P (length-add c xs ys h) (number_fits (add_bits c xs ys)) in
    sym (mod_low (bit (over c xs ys)) w (number (add_bits c xs ys)) fits) ∙ ap (low w) (add_whole c xs ys h)

pub number_sum : (xs ys : List Bool) → length ys ≡ length xs
    → number (add_bits false xs ys) ≡ sum (length xs) (number xs) (number ys)
number_sum xs ys h =
    let e : number xs + number ys + 0 ≡ number xs + number ys = omega arith in
    number_add false xs ys h ∙ ap (low (length xs)) e

pub number_difference : (xs ys : List Bool) → length ys ≡ length xs
    → number (add_bits true xs (map not ys)) ≡ difference (length xs) (number xs) (number ys)
number_difference xs ys h =
    let w = length xs in
    let p : 2 ^ length ys ≡ 2 ^ w = ap (λ k. 2 ^ k) h in
    let e : number xs + number (map not ys) + 1 ≡ number xs + (2 ^ w - number ys) = omega (arith, number_not ys, p) in
    number_add true xs (map not ys) (length-map ys not ∙ h) ∙ ap (low w) e

-- a number or 0
number_masked : (y : Bool) (xs : List Bool) → number (map (λ x. y && x) xs) ≡ bit y * number xs
number_masked y [] = omega arith
number_masked true (x ∷ xs) = omega (arith, number_masked true xs)
number_masked false (x ∷ xs) = omega (arith, number_masked false xs)

low_step : (w s x n b : ℕ) → low w (low w (s + b * x) + low w (x * 2) * n) ≡ low w (s + x * (b + 2 * n))
low_step w s x n b =
    let p = 2 ^ w in
    let e : s + b * x + x * 2 * n ≡ s + x * (b + 2 * n) = omega arith in
    mod-add-mod (s + b * x) p (low w (x * 2) * n)
    ∙ sym (add-mod-mod (s + b * x) (low w (x * 2) * n) p)
    ∙ ap (λ m. (s + b * x + m) % p) (mul-mod_first (x * 2) n p)
    ∙ add-mod-mod (s + b * x) (x * 2 * n) p ∙ ap (low w) e

pub length-mul : (sum xs ys : List Bool) → length sum ≡ length xs → length (mul_bits sum xs ys) ≡ length xs
length-mul sum xs [] h = h
length-mul sum xs (y ∷ ys) h =
    let a = length-add false sum (map (λ x. y && x) xs) (length-map xs (λ x. y && x) ∙ sym h) ∙ h in
    length-mul (add_bits false sum (map (λ x. y && x) xs)) (moved_up 1 xs) ys (a ∙ sym (length-moved_up 1 xs))
    ∙ length-moved_up 1 xs

number_mul : (sum xs ys : List Bool) → length sum ≡ length xs
    → number (mul_bits sum xs ys) ≡ low (length xs) (number sum + number xs * number ys)
number_mul sum xs [] h =
    let P : ℕ → Type 0 = λ k. number sum < 2 ^ k in
    let e : number sum ≡ number sum + number xs * 0 = omega arith in
    sym (mod-eq_of_lt (subst P h (number_fits sum))) ∙ ap (low (length xs)) e
number_mul sum xs (y ∷ ys) h =
    let w = length xs in
    let masked = map (λ x. y && x) xs in
    let m : length masked ≡ length sum = length-map xs (λ x. y && x) ∙ sym h in
    let more = add_bits false sum masked in
    let n = number ys in
    let even : length more ≡ length (moved_up 1 xs) = length-add false sum masked m ∙ h ∙ sym (length-moved_up 1 xs) in
    let e : number sum + number masked + 0 ≡ number sum + bit y * number xs = omega (arith, number_masked y xs) in
    let first : number more ≡ low w (number sum + bit y * number xs) =
    number_add false sum masked m ∙ ap (λ k. low k (number sum + number masked + 0)) h ∙ ap (low w) e in
    number_mul more (moved_up 1 xs) ys even
    ∙ ap (λ k. low k (number more + number (moved_up 1 xs) * n)) (length-moved_up 1 xs)
    ∙ ap (λ s. low w (s + number (moved_up 1 xs) * n)) first
    ∙ ap (λ s. low w (low w (number sum + bit y * number xs) + s * n)) (number_moved_up 1 xs)
    ∙ low_step w (number sum) (number xs) n (bit y)

pub number_product : (xs ys : List Bool)
    → number (mul_bits (replicate (length xs) false) xs ys) ≡ product (length xs) (number xs) (number ys)
number_product xs ys =
    let z = replicate (length xs) false in
    let e : number z + number xs * number ys ≡ number xs * number ys = omega (arith, number_zeros (length xs)) in
    number_mul z xs ys (length-replicate (length xs) false) ∙ ap (low (length xs)) e
