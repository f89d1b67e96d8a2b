-- One step of a division: the numbers of its nodes, and when they divide one more bit.
use Rattle.std.specs.Prelude.{◌≡◌, refl, ℕ, ◌+◌, ◌-◌, ◌*◌, ◌/◌, ◌%◌, ◌^◌, ◌<◌}
use Rattle.std.specs.Prelude.{◌≤◌, ◌==◌, Bool, true, false}
use Rattle.std.specs.Prelude.{if◌then◌else◌, nat_lt, not}
use Rattle.fv_bits.specs.Bits as bits
use Rattle.rv_rows.specs.Division.{IsDivided}
use Rattle.std.proofs.Common.{ap, sym, ◌∙◌, arith}
use Rattle.std.proofs.lemmas.Bool.Decides.{nat_tests}
use Rattle.std.proofs.lemmas.Nat.{div-mul-add, mod-mul-add, div-add-mod', mod_below, shr-shr, shr_le}

-- one more bit of the dividend
pub fits_again : (x b c q r : ℕ) → 0 < b → c < 2 → q ≡ x / b → r ≡ x % b → b ≤ r * 2 + c
    → ((x * 2 + c) / b ≡ q * 2 + 1) × ((x * 2 + c) % b ≡ r * 2 + c - b)
fits_again x b c q r some bit q_is r_is h =
    let small : r < b = omega (arith, mod_below x b some) in
    let split : q * b + r ≡ x = omega (arith, div-add-mod' x b, ap (λ n. n * b) q_is) in
    let whole : x * 2 + c ≡ (q * 2 + 1) * b + (r * 2 + c - b) = omega arith in
    let left : r * 2 + c - b < b = omega arith in (
      ap (λ n. n / b) whole ∙ div-mul-add (q * 2 + 1) b (r * 2 + c - b) left,
      ap (λ n. n % b) whole ∙ mod-mul-add (q * 2 + 1) b (r * 2 + c - b) left,
    )

pub fits_not : (x b c q r : ℕ) → 0 < b → c < 2 → q ≡ x / b → r ≡ x % b → r * 2 + c < b
    → ((x * 2 + c) / b ≡ q * 2) × ((x * 2 + c) % b ≡ r * 2 + c)
fits_not x b c q r some bit q_is r_is h =
    let split : q * b + r ≡ x = omega (arith, div-add-mod' x b, ap (λ n. n * b) q_is) in
    let whole : x * 2 + c ≡ q * 2 * b + (r * 2 + c) = omega arith in (
      ap (λ n. n / b) whole ∙ div-mul-add (q * 2) b (r * 2 + c) h,
      ap (λ n. n % b) whole ∙ mod-mul-add (q * 2) b (r * 2 + c) h,
    )

-- the upper bits of a number, with one more
pub one_more : (a i : ℕ) → a / 2 ^ i ≡ a / 2 ^ (i + 1) * 2 + a / 2 ^ i % 2
one_more a i = omega (arith, shr-shr a i 1)

-- the numbers of one step of the circuit
pub bit_divided : (a b at q r n d f m k : ℕ) → a < 2 ^ 32 → b < 2 ^ 32 → 0 < b → IsDivided a b (at + 1) q r
    → n ≡ bits.joined 1 r (bits.part at 1 a) → d ≡ b → f ≡ bits.bit (not (nat_lt n d))
    → m ≡ bits.part 0 32 (if f == 1 then bits.difference 33 n d else n)
    → k ≡ bits.joined 1 (bits.part 0 31 q) f → IsDivided a b at k m
bit_divided a b at q r n d f m k small less some h n_is d_is f_is m_is k_is = by (nat_lt n d) refl
  where
    x : ℕ
    x = a / 2 ^ (at + 1)

    c : ℕ
    c = a / 2 ^ at % 2

    small_c : c < 2
    small_c = omega arith

    rest : r < b
    rest = omega (arith, mod_below x b some, h.rest)

    n_is' : n ≡ r * 2 + c
    n_is' = n_is

    whole : a / 2 ^ at ≡ x * 2 + c
    whole = one_more a at

    short : a / 2 ^ at < 2 ^ 32
    short = omega (arith, shr_le a at)

    by : (t : Bool) → nat_lt n d ≡ t → IsDivided a b at k m
    by true e =
        let under : n < d = grind (arith, nat_tests, e) in
        let both = fits_not x b c q r some small_c h.quotient h.rest (omega arith) in
        let f0 : f ≡ 0 = f_is ∙ ap (λ t. bits.bit (not t)) e in
        let m0 : m ≡ bits.part 0 32 n = m_is
        ∙ ap (λ z. bits.part 0 32 (if z == 1 then bits.difference 33 n d else n)) f0 in
        let k0 : k ≡ bits.joined 1 (bits.part 0 31 q) 0 = k_is ∙ ap (bits.joined 1 (bits.part 0 31 q)) f0 in
        let q_now : a / 2 ^ at / b ≡ q * 2 = ap (λ z. z / b) whole ∙ both.0 in
        let r_now : a / 2 ^ at % b ≡ r * 2 + c = ap (λ z. z % b) whole ∙ both.1 in
        let bound : a / 2 ^ at / b ≤ a / 2 ^ at = omega arith in
        record { quotient = omega arith; rest = omega arith }
    by false e =
        let over : d ≤ n = grind (arith, nat_tests, e) in
        let both = fits_again x b c q r some small_c h.quotient h.rest (omega arith) in
        let f1 : f ≡ 1 = f_is ∙ ap (λ t. bits.bit (not t)) e in
        let m1 : m ≡ bits.part 0 32 (bits.difference 33 n d) = m_is
        ∙ ap (λ z. bits.part 0 32 (if z == 1 then bits.difference 33 n d else n)) f1 in
        let k1 : k ≡ bits.joined 1 (bits.part 0 31 q) 1 = k_is ∙ ap (bits.joined 1 (bits.part 0 31 q)) f1 in
        let q_now : a / 2 ^ at / b ≡ q * 2 + 1 = ap (λ z. z / b) whole ∙ both.0 in
        let r_now : a / 2 ^ at % b ≡ r * 2 + c - b = ap (λ z. z % b) whole ∙ both.1 in
        let bound : a / 2 ^ at / b ≤ a / 2 ^ at = omega arith in
        record { quotient = omega arith; rest = omega arith }

none_in : (b : ℕ) → 0 < b → 0 / b ≡ 0
none_in b some = omega arith

none_left : (b : ℕ) → 0 < b → 0 % b ≡ 0
none_left b some = omega arith

pub starts : (a b z : ℕ) → a < 2 ^ 32 → 0 < b → z ≡ 0 → IsDivided a b 32 z z
starts a b z small some e =
    let none : a / 2 ^ 32 ≡ 0 = omega arith in
    record {
      quotient = e ∙ sym (ap (λ n. n / b) none ∙ none_in b some);
      rest = e ∙ sym (ap (λ n. n % b) none ∙ none_left b some);
    }

pub divided_at : (a b c d at to q r x y : ℕ) → a ≡ c → b ≡ d → at ≡ to → q ≡ x → r ≡ y
    → IsDivided a b at q r → IsDivided c d to x y
divided_at a b c d at to q r x y ea eb et eq er h = record {
  quotient = sym eq ∙ h.quotient ∙ (λ i. ea i / 2 ^ et i / eb i);
  rest = sym er ∙ h.rest ∙ (λ i. ea i / 2 ^ et i % eb i);
}

whole : (n : ℕ) → n / 2 ^ 0 ≡ n
whole n = omega arith

chosen : (a b q z : ℕ) (t : Bool) → (b == 0) ≡ t → (0 < b → q ≡ a)
    → (if t then z else q) ≡ (if t then z else a)
chosen a b q z true e h = refl
chosen a b q z false e h = h (grind (arith, nat_tests, e))

-- all bits of the word are done, and a divisor 0 has its own quotient and remainder
pub quotient_is : (a b q r : ℕ) → (0 < b → IsDivided a b 0 q r)
    → (if b == 0 then bits.ones 32 else q) ≡ (if b == 0 then bits.ones 32 else a / b)
quotient_is a b q r h =
    chosen (a / b) b q (bits.ones 32) (b == 0) refl (λ some. (h some).quotient ∙ ap (λ n. n / b) (whole a))

pub remainder_is : (a b q r : ℕ) → (0 < b → IsDivided a b 0 q r)
    → (if b == 0 then a else r) ≡ (if b == 0 then a else a % b)
remainder_is a b q r h =
    chosen (a % b) b r a (b == 0) refl (λ some. (h some).rest ∙ ap (λ n. n % b) (whole a))
