-- Numbers that are moved down, by their bits.
use Rattle.std.specs.Prelude.{◌≡◌, refl, ℕ, zero, suc, ◌+◌, ◌-◌, ◌*◌, ◌/◌, ◌%◌, ◌^◌, ◌<◌, ◌≤◌, nat_lt, Bool, true}
use Rattle.std.specs.Prelude.{false, not, if◌then◌else◌, List, [], ◌∷◌, ◌++◌, length, take, drop, map, replicate}
use Rattle.std.proofs.Common.{ap, sym, ◌∙◌, arith, length-append}
use Rattle.std.proofs.lemmas.Bool.Decides.{nat_tests}
use Rattle.std.proofs.lemmas.Nat.{shr-shr}
use Rattle.std.proofs.lemmas.List.{length-take-le, length-replicate, length-map, length-drop, drop_all, take-map}
use Rattle.std.proofs.lemmas.List.{drop-map, map-append}
use Rattle.std.proofs.Math.Nat.{mod-eq_of_lt, div-eq_of_lt, div-le_self}
use Rattle.std.proofs.Math.Pow.{pow_mono}
use Rattle.fv_bits.specs.Bits.{bit, low, complement, is_negative, shifted_right, arithmetic_right}
use Rattle.bb_aig.specs.Bits.{number, pick, paired, moved_down, shr_bits, top}
use Rattle.bb_aig.proofs.Numbers.{number_fits, number-append, number_zeros, number_complement, top_sign}
use Rattle.bb_aig.proofs.Moves.{number_take, number_drop, pick_list, picked_all}

pub length-moved_down : (fill : Bool) (k : ℕ) (xs : List Bool) → length (moved_down fill k xs) ≡ length xs
length-moved_down fill k xs =
    length-take-le (length xs) (drop k xs ++ replicate k fill)
    (omega (arith, length-append (drop k xs) (replicate k fill), length-drop k xs, length-replicate k fill))

-- also past the last bit
dropped : (k : ℕ) (xs : List Bool) → number (drop k xs) ≡ number xs / 2 ^ k
dropped k xs = by (nat_lt k (length xs)) refl
  where
    by : (b : Bool) → nat_lt k (length xs) ≡ b → number (drop k xs) ≡ number xs / 2 ^ k
    by true t = number_drop k xs (let less : k < length xs = grind (arith, nat_tests, t) in omega (arith, less))
    by false t =
        let most : length xs ≤ k = grind (arith, nat_tests, t) in
        let p : 2 ^ length xs ≤ 2 ^ k = pow_mono most in
        ap number (drop_all k xs most) ∙ sym (div-eq_of_lt (omega (arith, number_fits xs, p)))

pub number_moved_down : (k : ℕ) (xs : List Bool) → number (moved_down false k xs) ≡ number xs / 2 ^ k
number_moved_down k xs =
    let zs = replicate k false in
    let long : length xs ≤ length (drop k xs ++ zs) =
    omega (arith, length-append (drop k xs) zs, length-drop k xs, length-replicate k false) in
    let z : number zs * 2 ^ length (drop k xs) ≡ 0 = ap (λ n. n * 2 ^ length (drop k xs)) (number_zeros k)
    ∙ omega arith in
    let e : number (drop k xs ++ zs) ≡ number (drop k xs) = number-append (drop k xs) zs ∙ omega (arith, z) in
    number_take (length xs) (drop k xs ++ zs) long ∙ ap (low (length xs)) (e ∙ dropped k xs)
    ∙ mod-eq_of_lt (omega (arith, number_fits xs, div-le_self (number xs) (2 ^ k)))

stage : (k : ℕ) (y : Bool) (xs : List Bool)
    → number (pick_list y (moved_down false k xs) xs) ≡ number xs / 2 ^ (k * bit y)
stage k true xs =
    let e : k ≡ k * 1 = omega arith in number_moved_down k xs ∙ ap (λ n. number xs / 2 ^ n) e
stage k false xs =
    let z : 0 ≡ k * 0 = omega arith in
    let e : number xs ≡ number xs / 2 ^ 0 = omega arith in
    e ∙ ap (λ n. number xs / 2 ^ n) z

staged : (fill : Bool) (k : ℕ) (y : Bool) (xs : List Bool) → length (pick_list y (moved_down fill k xs) xs) ≡ length xs
staged fill k true xs = length-moved_down fill k xs
staged fill k false xs = refl

pub length-shr : (fill : Bool) (k : ℕ) (xs ys : List Bool) → length (shr_bits fill k xs ys) ≡ length xs
length-shr fill k xs [] = refl
length-shr fill k xs (y ∷ ys) =
    length-shr fill (2 * k) (paired (pick y) (moved_down fill k xs) xs) ys
    ∙ ap length (picked_all y (moved_down fill k xs) xs (sym (length-moved_down fill k xs))) ∙ staged fill k y xs

number_shr : (k : ℕ) (xs ys : List Bool) → number (shr_bits false k xs ys) ≡ number xs / 2 ^ (k * number ys)
number_shr k xs [] =
    let z : 0 ≡ k * 0 = omega arith in
    let e : number xs ≡ number xs / 2 ^ 0 = omega arith in
    e ∙ ap (λ n. number xs / 2 ^ n) z
number_shr k xs (y ∷ ys) =
    let us = paired (pick y) (moved_down false k xs) xs in
    let same : us ≡ pick_list y (moved_down false k xs) xs = picked_all y (moved_down false k xs) xs
    (sym (length-moved_down false k xs)) in
    let n = 2 * k * number ys in
    let is : number us ≡ number xs / 2 ^ (k * bit y) = ap number same ∙ stage k y xs in
    let e : k * bit y + n ≡ k * (bit y + 2 * number ys) = omega arith in
    number_shr (2 * k) us ys ∙ ap (λ m. m / 2 ^ n) is ∙ shr-shr (number xs) (k * bit y) n
    ∙ ap (λ m. number xs / 2 ^ m) e

pub number_shifted_right : (xs ys : List Bool) → number (shr_bits false 1 xs ys) ≡ shifted_right (number xs) (number ys)
number_shifted_right xs ys =
    let e : 1 * number ys ≡ number ys = omega arith in number_shr 1 xs ys ∙ ap (λ n. number xs / 2 ^ n) e

-- ---- filled with ones: the bits turned, moved down, and turned again

twice : (b : Bool) → not (not b) ≡ b
twice true = refl
twice false = refl

turned_replicate : (k : ℕ) (b : Bool) → map not (replicate k b) ≡ replicate k (not b)
turned_replicate zero b = refl
turned_replicate (suc k) b = ap (λ bs. not b ∷ bs) (turned_replicate k b)

turned_down : (fill : Bool) (k : ℕ) (xs : List Bool)
    → moved_down (not fill) k (map not xs) ≡ map not (moved_down fill k xs)
turned_down fill k xs =
    (λ i. take (length-map xs not i) (drop-map not k xs i ++ sym (turned_replicate k fill) i))
    ∙ ap (take (length xs)) (sym (map-append not (drop k xs) (replicate k fill)))
    ∙ take-map not (length xs) (drop k xs ++ replicate k fill)

turned_pick : (y : Bool) (xs ys : List Bool)
    → paired (pick y) (map not xs) (map not ys) ≡ map not (paired (pick y) xs ys)
turned_pick y [] [] = refl
turned_pick y [] (b ∷ ys) = refl
turned_pick y (a ∷ xs) [] = refl
turned_pick true (a ∷ xs) (b ∷ ys) = ap (λ bs. not a ∷ bs) (turned_pick true xs ys)
turned_pick false (a ∷ xs) (b ∷ ys) = ap (λ bs. not b ∷ bs) (turned_pick false xs ys)

turned_shr : (fill : Bool) (k : ℕ) (xs ys : List Bool)
    → shr_bits (not fill) k (map not xs) ys ≡ map not (shr_bits fill k xs ys)
turned_shr fill k xs [] = refl
turned_shr fill k xs (y ∷ ys) =
    ap (λ us. shr_bits (not fill) (2 * k) us ys)
    (ap (λ us. paired (pick y) us (map not xs)) (turned_down fill k xs) ∙ turned_pick y (moved_down fill k xs) xs)
    ∙ turned_shr fill (2 * k) (paired (pick y) (moved_down fill k xs) xs) ys

not_all : (xs : List Bool) → map not (map not xs) ≡ xs
not_all [] = refl
not_all (x ∷ xs) = λ i. twice x i ∷ not_all xs i

filled : (xs ys : List Bool) → number (shr_bits true 1 xs ys)
    ≡ complement (length xs) (shifted_right (complement (length xs) (number xs)) (number ys))
filled xs ys =
    let us = shr_bits false 1 (map not xs) ys in
    let e : shr_bits true 1 xs ys ≡ map not us =
    ap (λ zs. shr_bits true 1 zs ys) (sym (not_all xs)) ∙ turned_shr false 1 (map not xs) ys in
    let wide : length us ≡ length xs = length-shr false 1 (map not xs) ys ∙ length-map xs not in
    ap number e ∙ number_complement us ∙ ap (λ w. complement w (number us)) wide
    ∙ ap (complement (length xs)) (number_shifted_right (map not xs) ys
    ∙ ap (λ n. shifted_right n (number ys)) (number_complement xs))

pub number_arithmetic : (xs ys : List Bool) → 1 ≤ length xs
    → number (shr_bits (top xs) 1 xs ys) ≡ arithmetic_right (length xs) (number xs) (number ys)
number_arithmetic xs ys some =
    by (top xs) refl ∙ ap (λ b. if b then complement (length xs)
    (shifted_right (complement (length xs) (number xs)) (number ys)) else shifted_right (number xs) (number ys))
    (top_sign xs some)
  where
    by : (b : Bool) → top xs ≡ b → number (shr_bits (top xs) 1 xs ys)
        ≡ (if top xs then complement (length xs) (shifted_right (complement (length xs) (number xs)) (number ys))
        else shifted_right (number xs) (number ys))
    by true t =
        ap (λ b. number (shr_bits b 1 xs ys)) t ∙ filled xs ys
        ∙ ap (λ b. if b then complement (length xs) (shifted_right (complement (length xs) (number xs)) (number ys))
        else shifted_right (number xs) (number ys)) (sym t)
    by false t =
        ap (λ b. number (shr_bits b 1 xs ys)) t ∙ number_shifted_right xs ys
        ∙ ap (λ b. if b then complement (length xs) (shifted_right (complement (length xs) (number xs)) (number ys))
        else shifted_right (number xs) (number ys)) (sym t)
