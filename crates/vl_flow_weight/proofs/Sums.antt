-- Sums and products that stop at a limit.
use Rattle.std.specs.Prelude.{◌≡◌, refl, ℕ, zero, suc, ◌+◌, ◌*◌, ◌-◌, ◌^◌, ◌≤◌, ◌<◌, min, Bool, true, false, nat_lt}
use Rattle.std.proofs.Common.{ap, sym, ◌∙◌, arith, ◌⊎◌, inl, inr}
use Rattle.std.proofs.lemmas.Bool.Decides.{nat_tests}
use Rattle.vl_mean.specs.ConstantFaults.{capped}

stopped : (top m n : ℕ) → min (min m top + min n top) top ≡ min (m + n) top
stopped top m n = omega arith

below : (top a : ℕ) → (a ≤ top) ⊎ (top < a)
below top a = by (nat_lt top a) refl
  where
    by : (t : Bool) → nat_lt top a ≡ t → (a ≤ top) ⊎ (top < a)
    by true e = inr (grind (arith, nat_tests, e))
    by false e = inl (grind (arith, nat_tests, e))

pub cap_add : (a b m n : ℕ) → capped a ≡ capped m → capped b ≡ capped n → capped (a + b) ≡ capped (m + n)
cap_add a b m n h k =
    sym (stopped (2 ^ 64 - 1) a b) ∙ (λ i. capped (h i + k i)) ∙ stopped (2 ^ 64 - 1) m n

pub cap_again : (a : ℕ) → capped (capped a) ≡ capped a
cap_again a = omega arith

times_cap : (a n : ℕ) → (a ≤ 2 ^ 64 - 1) ⊎ (2 ^ 64 - 1 < a) → capped (capped a * n) ≡ capped (a * n)
times_cap a n (inl h) = let same : capped a ≡ a = omega (arith, h) in ap (λ b. capped (b * n)) same
times_cap a zero (inr h) = omega arith
times_cap a (suc n) (inr h) =
    let most : capped a ≡ 2 ^ 64 - 1 = omega (arith, h) in
    ap (λ b. capped (b * suc n)) most ∙ omega (arith, h)

pub cap_times : (a n : ℕ) → capped (capped a * n) ≡ capped (a * n)
cap_times a n = times_cap a n (below (2 ^ 64 - 1) a)

pub cap_mul : (a b n : ℕ) → capped a ≡ capped b → capped (a * n) ≡ capped (b * n)
cap_mul a b n h = sym (cap_times a n) ∙ ap (λ c. capped (c * n)) h ∙ cap_times b n

-- ---- gates by the number of bits

pub cap_gates : (f p s g q t n : ℕ) → capped f ≡ capped g → capped p ≡ capped q → capped s ≡ capped t
    → capped (f + p * n + s * n * n) ≡ capped (g + q * n + t * n * n)
cap_gates f p s g q t n h k l =
    cap_add (f + p * n) (s * n * n) (g + q * n) (t * n * n) (cap_add f (p * n) g (q * n) h (cap_mul p q n k))
    (cap_mul (s * n) (t * n) n (cap_mul s t n l))

pub at_bits : (f p s n l w q a r : ℕ) → l ≡ capped (p * n) → w ≡ capped (s * n) → q ≡ capped (w * n)
    → a ≡ capped (f + l) → r ≡ capped (a + q) → r ≡ capped (f + p * n + s * n * n)
at_bits f p s n l w q a r h k m o e =
    let linear : capped l ≡ capped (p * n) = ap capped h ∙ cap_again (p * n) in
    let one : capped w ≡ capped (s * n) = ap capped k ∙ cap_again (s * n) in
    let square : capped q ≡ capped (s * n * n) = ap capped m ∙ cap_again (w * n) ∙ cap_mul w (s * n) n one in
    let front : capped a ≡ capped (f + p * n) = ap capped o ∙ cap_again (f + l) ∙ cap_add f l f (p * n) refl linear in
    e ∙ cap_add a q (f + p * n) (s * n * n) front square

pub both : (f p s g q t a b c n : ℕ) → a ≡ capped (f + g) → b ≡ capped (p + q) → c ≡ capped (s + t)
    → capped (a + b * n + c * n * n) ≡ capped (capped (f + p * n + s * n * n) + capped (g + q * n + t * n * n))
both f p s g q t a b c n h k l =
    cap_gates a b c (f + g) (p + q) (s + t) n (ap capped h ∙ cap_again (f + g)) (ap capped k ∙ cap_again (p + q))
    (ap capped l ∙ cap_again (s + t))
    ∙ ap capped (spread f p s g q t n)
    ∙ sym (stopped (2 ^ 64 - 1) (f + p * n + s * n * n) (g + q * n + t * n * n))
  where
    spread : (f p s g q t n : ℕ) → (f + g) + (p + q) * n + (s + t) * n * n
        ≡ (f + p * n + s * n * n) + (g + q * n + t * n * n)
    spread f p s g q t n = omega arith

-- only for each bit
pub linear_alone : (c n : ℕ) → capped (0 + c * n + 0 * n * n) ≡ capped (c * n)
linear_alone c n = omega arith

pub eight_squares : (n : ℕ) → capped (0 + 0 * n + 8 * n * n) ≡ capped (8 * n * n)
eight_squares n = omega arith

-- whatever the bits
pub fixed_alone : (c n : ℕ) → c ≤ 2 ^ 64 - 1 → capped (c + 0 * n + 0 * n * n) ≡ c
fixed_alone c n h = omega (arith, h)

-- the bits may stop at the limit too
pub cap_bits : (f p s n : ℕ) → capped (f + p * capped n + s * capped n * capped n) ≡ capped (f + p * n + s * n * n)
cap_bits f p s n =
    cap_add (f + p * capped n) (s * capped n * capped n) (f + p * n) (s * n * n)
    (cap_add f (p * capped n) f (p * n) refl (right p n))
    (cap_mul (s * capped n) (s * n) (capped n) (right s n) ∙ right (s * n) n)
  where
    right : (a n : ℕ) → capped (a * capped n) ≡ capped (a * n)
    right a n = let swap : (a b : ℕ) → a * b ≡ b * a = λ a b. omega arith in
        ap capped (swap a (capped n)) ∙ cap_times n a ∙ ap capped (swap n a)

-- ---- sums of two and of three

pub two : (m n a b r : ℕ) → a ≡ capped m → b ≡ capped n → r ≡ capped (a + b) → r ≡ capped (m + n)
two m n a b r h k e = e ∙ (λ i. capped (h i + k i)) ∙ stopped (2 ^ 64 - 1) m n

pub sum : (m n a b : ℕ) → a ≡ capped m → b ≡ capped n → capped (a + b) ≡ capped (m + n)
sum m n a b h k = (λ i. capped (h i + k i)) ∙ stopped (2 ^ 64 - 1) m n

pub three : (l m n a b c i r : ℕ) → a ≡ capped l → b ≡ capped m → c ≡ capped n → i ≡ capped (b + c)
    → r ≡ capped (a + i) → r ≡ capped (l + (m + n))
three l m n a b c i r h k j o e = two l (m + n) a i r h (two m n b c i k j o) e

pub product : (m n a : ℕ) → a ≡ capped m → capped (a * n) ≡ capped (m * n)
product m n a h = ap (λ b. capped (b * n)) h ∙ cap_times m n

pub ruleset sums = (sum, product)
