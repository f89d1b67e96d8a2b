-- Signed numbers by their bits.
use Rattle.std.specs.Prelude.{◌≡◌, refl, ℕ, zero, suc, ◌+◌, ◌-◌, ◌*◌, ◌^◌, ◌<◌, ◌≤◌, Bool, true, false, not}
use Rattle.std.specs.Prelude.{if◌then◌else◌, List, [], ◌∷◌, ◌++◌, length, replicate, nat_lt, nat_le, ℤ, pos, negsuc}
use Rattle.std.specs.Prelude.{int_lt}
use Rattle.std.proofs.Common.{ap, sym, ◌∙◌, arith, subst}
use Rattle.std.proofs.lemmas.Nat.{pow-add}
use Rattle.std.proofs.lemmas.Bool.{lt-ltb, le-ltb}
use Rattle.fv_bits.specs.Bits.{bit, to_int, is_negative, is_less_signed, sign_extended}
use Rattle.bb_aig.specs.Bits.{number, top, turned_top, less_bits}
use Rattle.bb_aig.proofs.Numbers.{pow_next, number_fits, number-append, number_zeros, number_ones, top_sign}
use Rattle.bb_aig.proofs.Orders.{lt_lt, number_ult}

half : (n : ℕ) → 2 ^ (suc (suc n) - 1) ≡ 2 * 2 ^ (suc n - 1)
half n =
    let e : suc (suc n) - 1 ≡ suc (suc n - 1) = omega arith in
    ap (λ k. 2 ^ k) e ∙ pow_next (suc n - 1)

pub length-turned : (xs : List Bool) → length (turned_top xs) ≡ length xs
length-turned [] = refl
length-turned (x ∷ []) = refl
length-turned (x ∷ y ∷ ys) = omega (arith, length-turned (y ∷ ys))

-- the number with its highest bit turned
turned : (xs : List Bool) → 1 ≤ length xs
    → number (turned_top xs) + bit (top xs) * 2 ^ (length xs - 1) ≡ number xs + bit (not (top xs)) * 2 ^ (length xs - 1)
turned [] h = absurd (omega arith)
turned (true ∷ []) h = refl
turned (false ∷ []) h = refl
turned (x ∷ y ∷ ys) h =
    let n = length ys in
    let t = top (y ∷ ys) in
    let p = 2 ^ (suc n - 1) in
    let a : bit t * 2 ^ (suc (suc n) - 1) ≡ 2 * (bit t * p) = ap (λ q. bit t * q) (half n) ∙ omega arith in
    let b : bit (not t) * 2 ^ (suc (suc n) - 1) ≡ 2 * (bit (not t) * p) = ap (λ q. bit (not t) * q) (half n)
    ∙ omega arith in
    omega (arith, turned (y ∷ ys) (omega arith), a, b)

abbrev pub int_of : Bool → ℕ → ℕ → ℤ
int_of s w n = if s then negsuc (2 ^ w - 1 - n) else pos n

compared : (s t : Bool) (w p m n u v : ℕ) → 2 ^ w ≡ 2 * p → m < 2 * p → n < 2 * p
    → u + bit s * p ≡ m + bit (not s) * p → v + bit t * p ≡ n + bit (not t) * p
    → u < 2 * p → v < 2 * p → int_lt (int_of s w m) (int_of t w n) ≡ nat_lt u v
compared true true w p m n u v e a b c d f g =
    lt_lt (2 ^ w - 1 - n) (2 ^ w - 1 - m) u v (λ h. omega arith) (λ h. omega arith)
compared false false w p m n u v e a b c d f g = lt_lt m n u v (λ h. omega arith) (λ h. omega arith)
compared true false w p m n u v e a b c d f g = sym (lt-ltb u v (omega arith))
compared false true w p m n u v e a b c d f g = sym (le-ltb u v (omega arith))

whole : (xs : List Bool) → 1 ≤ length xs → 2 ^ length xs ≡ 2 * 2 ^ (length xs - 1)
whole xs h = let e : length xs ≡ suc (length xs - 1) = omega arith in ap (λ k. 2 ^ k) e ∙ pow_next (length xs - 1)

pub number_slt : (xs ys : List Bool) → 1 ≤ length xs → length ys ≡ length xs
    → less_bits false (turned_top xs) (turned_top ys) ≡ is_less_signed (length xs) (number xs) (number ys)
number_slt xs ys some each =
    let w = length xs in
    let p = 2 ^ (w - 1) in
    let e : 2 ^ w ≡ 2 * p = whole xs some in
    let q : 2 ^ length ys ≡ 2 * p = ap (λ k. 2 ^ k) each ∙ e in
    let r : 2 ^ length (turned_top xs) ≡ 2 * p = ap (λ k. 2 ^ k) (length-turned xs) ∙ e in
    let s : 2 ^ length (turned_top ys) ≡ 2 * p = ap (λ k. 2 ^ k) (length-turned ys) ∙ q in
    let Y : number (turned_top ys) + bit (top ys) * p ≡ number ys + bit (not (top ys)) * p =
    ap (λ k. number (turned_top ys) + bit (top ys) * 2 ^ (k - 1)) (sym each) ∙ turned ys (omega arith)
    ∙ ap (λ k. number ys + bit (not (top ys)) * 2 ^ (k - 1)) each in
    number_ult (turned_top xs) (turned_top ys) (length-turned ys ∙ each ∙ sym (length-turned xs))
    ∙ sym (compared (top xs) (top ys) w p (number xs) (number ys) (number (turned_top xs)) (number (turned_top ys)) e
    (omega (arith, number_fits xs, e)) (omega (arith, number_fits ys, q)) (turned xs some) Y
    (omega (arith, number_fits (turned_top xs), r)) (omega (arith, number_fits (turned_top ys), s)))
    ∙ ap (λ b. int_lt (int_of b w (number xs)) (int_of (top ys) w (number ys))) (top_sign xs some)
    ∙ ap (λ b. int_lt (to_int w (number xs)) (int_of b w (number ys)))
    (top_sign ys (omega arith) ∙ ap (λ k. is_negative k (number ys)) each)

extended : (b : Bool) (k : ℕ) (xs : List Bool)
    → number (xs ++ replicate k b) ≡ (if b then number xs + (2 ^ (length xs + k) - 2 ^ length xs) else number xs)
extended true k xs =
    let m = 2 ^ length xs in
    let e : number (replicate k true) * m + m ≡ 2 ^ k * m = omega arith ∙ ap (λ q. q * m) (number_ones k) in
    let f : 2 ^ (length xs + k) ≡ 2 ^ k * m = pow-add 2 (length xs) k ∙ omega arith in
    number-append xs (replicate k true) ∙ omega (arith, e, f)
extended false k xs =
    let e : number (replicate k false) * 2 ^ length xs ≡ 0 = ap (λ q. q * 2 ^ length xs) (number_zeros k)
    ∙ omega arith in
    number-append xs (replicate k false) ∙ omega (arith, e)

pub number_sext : (k : ℕ) (xs : List Bool) → 1 ≤ length xs
    → number (xs ++ replicate k (top xs)) ≡ sign_extended (length xs) (length xs + k) (number xs)
number_sext k xs some =
    extended (top xs) k xs ∙ ap (λ b. if b then number xs + (2 ^ (length xs + k) - 2 ^ length xs) else number xs)
    (top_sign xs some)
