-- Numbers that are moved, cut and extended, by their bits.
use Rattle.std.specs.Prelude.{◌≡◌, refl, ℕ, zero, suc, ◌+◌, ◌-◌, ◌*◌, ◌/◌, ◌%◌, ◌^◌, ◌<◌, ◌≤◌, Bool, true, false, not}
use Rattle.std.specs.Prelude.{◌&&◌, ◌||◌, List, [], ◌∷◌, ◌++◌, length, take, drop, map, replicate}
use Rattle.std.proofs.Common.{ap, sym, ◌∙◌, arith, subst, length-append}
use Rattle.std.proofs.lemmas.Nat.{pow-add, mul-mod_first}
use Rattle.std.proofs.lemmas.List.{take-append-drop, length-take-le, length-replicate, length-map, length-drop}
use Rattle.std.proofs.Math.Nat.{mod-eq_of_lt, mul_assoc}
use Rattle.fv_bits.specs.Bits.{bit, low, part, shifted_left, shifted_right, sign_extended}
use Rattle.bb_aig.specs.Bits.{number, pick, paired, moved_up, shl_bits}
use Rattle.bb_aig.proofs.Numbers.{number_fits, number-append, number_low, number_high, number_zeros}

pub number_take : (k : ℕ) (xs : List Bool) → k ≤ length xs → number (take k xs) ≡ low k (number xs)
number_take k xs h =
    number_low (take k xs) (drop k xs) ∙ ap (λ n. low n (number (take k xs ++ drop k xs))) (length-take-le k xs h)
    ∙ ap (λ ys. low k (number ys)) (take-append-drop k xs)

pub number_drop : (k : ℕ) (xs : List Bool) → k ≤ length xs → number (drop k xs) ≡ number xs / 2 ^ k
number_drop k xs h =
    number_high (take k xs) (drop k xs) ∙ ap (λ n. number (take k xs ++ drop k xs) / 2 ^ n) (length-take-le k xs h)
    ∙ ap (λ ys. number ys / 2 ^ k) (take-append-drop k xs)

pub number_part : (at w : ℕ) (xs : List Bool) → at + w ≤ length xs
    → number (take w (drop at xs)) ≡ part at w (number xs)
number_part at w xs h =
    number_take w (drop at xs) (omega (arith, length-drop at xs)) ∙ ap (low w) (number_drop at xs (omega arith))

pub length-moved_up : (k : ℕ) (xs : List Bool) → length (moved_up k xs) ≡ length xs
length-moved_up k xs =
    length-take-le (length xs) (replicate k false ++ xs) (omega (arith, length-append (replicate k false) xs))

pub number_moved_up : (k : ℕ) (xs : List Bool) → number (moved_up k xs) ≡ low (length xs) (number xs * 2 ^ k)
number_moved_up k xs =
    let zs = replicate k false in
    let p : 2 ^ length zs ≡ 2 ^ k = ap (λ n. 2 ^ n) (length-replicate k false) in
    let e : number (zs ++ xs) ≡ number xs * 2 ^ k =
    number-append zs xs ∙ ap (λ n. n + number xs * 2 ^ length zs) (number_zeros k) ∙ ap (λ q. 0 + number xs * q) p
    ∙ omega arith in
    number_take (length xs) (zs ++ xs) (omega (arith, length-append zs xs)) ∙ ap (low (length xs)) e

abbrev pub pick_list : Bool → List Bool → List Bool → List Bool
pick_list true xs ys = xs
pick_list false xs ys = ys

pub picked_all : (y : Bool) (xs ys : List Bool) → length ys ≡ length xs → paired (pick y) xs ys ≡ pick_list y xs ys
picked_all true [] [] h = refl
picked_all false [] [] h = refl
picked_all y [] (b ∷ ys) h = absurd (omega arith)
picked_all y (a ∷ xs) [] h = absurd (omega arith)
picked_all true (a ∷ xs) (b ∷ ys) h = ap (λ zs. a ∷ zs) (picked_all true xs ys (omega arith))
picked_all false (a ∷ xs) (b ∷ ys) h = ap (λ zs. b ∷ zs) (picked_all false xs ys (omega arith))

stage : (k : ℕ) (y : Bool) (xs : List Bool)
    → number (pick_list y (moved_up k xs) xs) ≡ low (length xs) (number xs * 2 ^ (k * bit y))
stage k true xs =
    let e : k ≡ k * 1 = omega arith in
    number_moved_up k xs ∙ ap (λ n. low (length xs) (number xs * 2 ^ n)) e
stage k false xs =
    let z : 0 ≡ k * 0 = omega arith in
    let e : number xs ≡ number xs * 2 ^ 0 = omega arith in
    sym (mod-eq_of_lt (number_fits xs)) ∙ ap (low (length xs)) e ∙ ap (λ n. low (length xs) (number xs * 2 ^ n)) z

staged : (k : ℕ) (y : Bool) (xs : List Bool) → length (pick_list y (moved_up k xs) xs) ≡ length xs
staged k true xs = length-moved_up k xs
staged k false xs = refl

pub length-shl : (k : ℕ) (xs ys : List Bool) → length (shl_bits k xs ys) ≡ length xs
length-shl k xs [] = refl
length-shl k xs (y ∷ ys) =
    length-shl (2 * k) (paired (pick y) (moved_up k xs) xs) ys
    ∙ ap length (picked_all y (moved_up k xs) xs (sym (length-moved_up k xs))) ∙ staged k y xs

pub number_shl : (k : ℕ) (xs ys : List Bool)
    → number (shl_bits k xs ys) ≡ low (length xs) (number xs * 2 ^ (k * number ys))
number_shl k xs [] =
    let z : 0 ≡ k * 0 = omega arith in
    let e : number xs ≡ number xs * 2 ^ 0 = omega arith in
    sym (mod-eq_of_lt (number_fits xs)) ∙ ap (low (length xs)) e ∙ ap (λ n. low (length xs) (number xs * 2 ^ n)) z
number_shl k xs (y ∷ ys) =
    let w = length xs in
    let us = paired (pick y) (moved_up k xs) xs in
    let same : us ≡ pick_list y (moved_up k xs) xs = picked_all y (moved_up k xs) xs (sym (length-moved_up k xs)) in
    let wide : length us ≡ w = ap length same ∙ staged k y xs in
    let n = 2 * k * number ys in
    let is : number us ≡ low w (number xs * 2 ^ (k * bit y)) = ap number same ∙ stage k y xs in
    let e : k * bit y + n ≡ k * (bit y + 2 * number ys) = omega arith in
    number_shl (2 * k) us ys ∙ ap (λ m. low m (number us * 2 ^ n)) wide ∙ ap (λ m. low w (m * 2 ^ n)) is
    ∙ mul-mod_first (number xs * 2 ^ (k * bit y)) (2 ^ n) (2 ^ w)
    ∙ ap (low w) (mul_assoc (number xs) (2 ^ (k * bit y)) (2 ^ n))
    ∙ ap (λ q. low w (number xs * q)) (sym (pow-add 2 (k * bit y) n)) ∙ ap (λ m. low w (number xs * 2 ^ m)) e

pub number_shifted : (xs ys : List Bool) → number (shl_bits 1 xs ys) ≡ shifted_left (length xs) (number xs) (number ys)
number_shifted xs ys =
    let e : 1 * number ys ≡ number ys = omega arith in
    number_shl 1 xs ys ∙ ap (λ n. low (length xs) (number xs * 2 ^ n)) e
