-- An odd number of bits, from the highest down.
use Rattle.std.specs.Prelude.{◌≡◌, refl, ℕ, zero, suc, ◌+◌, ◌-◌, ◌/◌, ◌%◌, ◌^◌, ◌<◌, ◌≤◌, ◌==◌, Bool, true, false}
use Rattle.std.specs.Prelude.{not, bit_xor, if◌then◌else◌}
use Rattle.std.proofs.Common.{ap, sym, ◌∙◌, arith}
use Rattle.std.proofs.Math.Nat.{div-div-eq-div-mul}
use Rattle.std.proofs.lemmas.Nat.{pow-add, mod_below}
use Rattle.fv_bits.specs.Bits.{part, bit, parity}

xor_bits : (n : ℕ) (b : Bool) → n < 2 → bit_xor n (bit b) ≡ bit (if n == 1 then not b else b)
xor_bits zero true h = refl
xor_bits zero false h = refl
xor_bits (suc zero) true h = refl
xor_bits (suc zero) false h = refl
xor_bits (suc (suc n)) b h = absurd (omega arith)

-- of the bits from p on, by those from q on
pub parity_step : (w p q x : ℕ) → q ≡ p + 1 → q ≤ w
    → bit_xor (part p 1 x) (bit (parity (w - q) (x / 2 ^ q))) ≡ bit (parity (w - p) (x / 2 ^ p))
parity_step w p q x e below =
    let n = x / 2 ^ p in
    let k = w - q in
    let half : x / 2 ^ q ≡ n / 2 =
    ap (λ j. x / 2 ^ j) e ∙ ap (λ m. x / m) (pow-add 2 p 1) ∙ sym (div-div-eq-div-mul x (2 ^ p) 2) in
    let count : suc k ≡ w - p = omega arith in
    ap (λ m. bit_xor (part p 1 x) (bit (parity k m))) half
    ∙ xor_bits (n % 2) (parity k (n / 2)) (mod_below n 2 (omega arith))
    ∙ ap (λ j. bit (parity j n)) count

pub parity_none : (w x : ℕ) → 0 ≡ bit (parity (w - w) x)
parity_none w x = let e : 0 ≡ w - w = omega arith in ap (λ j. bit (parity j x)) e

pub parity_all : (w x : ℕ) → bit (parity (w - 0) (x / 2 ^ 0)) ≡ bit (parity w x)
parity_all w x =
    let f : w - 0 ≡ w = omega arith in let h : x / 2 ^ 0 ≡ x = omega arith in λ i. bit (parity (f i) (h i))

pub ruleset parities = (parity_none, parity_all)
