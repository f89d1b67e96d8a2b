-- The digits of codes and of values, step by step.
use Rattle.std.proofs.Common.{◌≡◌, ℕ, zero, suc, ◌+◌, ◌/◌, ◌%◌, ◌<◌, ◌≤◌, Bool, true, false, cond, List, [], ◌∷◌}
use Rattle.std.proofs.Common.{◌++◌, refl, ap, sym, ◌∙◌, inl, inr, append_assoc, arith}
use Rattle.std.specs.Prelude.{nat_lt}
use Rattle.std.proofs.lemmas.Bool.{cases_lt}
use Rattle.std.proofs.lemmas.Bool.Decides.{nat_tests}
use Rattle.std.proofs.Math.Nat.{div-lt_self, mod-eq_of_lt}
use Rattle.vcd_dump.specs.Digits.{code_within, code, number_within, number, binary}

lt_true : (a b : ℕ) → a < b → nat_lt a b ≡ true
lt_true a b h = grind (arith, nat_tests)

le_false : (a b : ℕ) → b ≤ a → nat_lt a b ≡ false
le_false a b h = grind (arith, nat_tests)

-- a choice by a test whose outcome is known
pub when : {X : Type 0} (b : Bool) (x y : X) → b ≡ true → cond b x y ≡ x
when true x y e = refl
when false x y e = absurd (let h : false ≡ true = e in cc)

pub unless : {X : Type 0} (b : Bool) (x y : X) → b ≡ false → cond b x y ≡ y
unless true x y e = absurd (let h : true ≡ false = e in cc)
unless false x y e = refl

-- more room for digits changes nothing
code_enough : (f g n : ℕ) → n ≤ f → n ≤ g → code_within f n ≡ code_within g n
code_enough zero zero n h k = refl
code_enough zero (suc g) n h k = let e : n ≡ 0 = omega arith in rw e refl
code_enough (suc f) zero n h k = let e : n ≡ 0 = omega arith in rw e refl
code_enough (suc f) (suc g) n h k = elim (cases_lt n 94) [
  | inl l ↦ when (nat_lt n 94) ((33 + n) ∷ []) ((33 + n % 94) ∷ code_within f (n / 94)) (lt_true n 94 l)
      ∙ sym (when (nat_lt n 94) ((33 + n) ∷ []) ((33 + n % 94) ∷ code_within g (n / 94)) (lt_true n 94 l))
  | inr l ↦ unless (nat_lt n 94) ((33 + n) ∷ []) ((33 + n % 94) ∷ code_within f (n / 94)) (le_false n 94 l)
      ∙ ap (λ x. (33 + n % 94) ∷ x) (code_enough f g (n / 94) (omega arith) (omega arith))
      ∙ sym (unless (nat_lt n 94) ((33 + n) ∷ []) ((33 + n % 94) ∷ code_within g (n / 94)) (le_false n 94 l))
]

-- the code of an index below 94 is one digit
pub code_small : (n : ℕ) → n < 94 → code n ≡ (33 + n) ∷ []
unfolding code
code_small zero h = refl
code_small (suc n) h = when (nat_lt (suc n) 94) ((33 + suc n) ∷ []) ((33 + suc n % 94) ∷ code_within n (suc n / 94))
    (lt_true (suc n) 94 h)

-- the code of another has one digit before the code of what is left
pub code_more : (n : ℕ) → 94 ≤ n → code n ≡ (33 + n % 94) ∷ code (n / 94)
unfolding code
code_more zero h = absurd (omega arith)
code_more (suc n) h =
    unless (nat_lt (suc n) 94) ((33 + suc n) ∷ []) ((33 + suc n % 94) ∷ code_within n (suc n / 94))
    (le_false (suc n) 94 h)
    ∙ ap (λ x. (33 + suc n % 94) ∷ x) (code_enough n (suc n / 94) (suc n / 94) (omega arith) (omega arith))

quotient_within : (base n k : ℕ) → 2 ≤ base → base ≤ n → n ≤ suc k → n / base ≤ k
quotient_within base n k h l m = let p : 0 < n = omega (arith, h, l) in let q : 1 < base = omega (arith, h)
    in let r : n / base < n = div-lt_self p q in omega (arith, r, m)

number_at_zero : (base f n : ℕ) → 2 ≤ base → n ≡ 0 → number_within base 0 n ≡ number_within base f n
number_at_zero base zero n b e = refl
number_at_zero base (suc f) n b e = let m : n % base ≡ n = mod-eq_of_lt (omega (arith, b, e))
    in ap (λ x. (48 + x) ∷ []) m ∙ sym (when (nat_lt n base) ((48 + n) ∷ [])
    (number_within base f (n / base) ++ (48 + n % base) ∷ []) (lt_true n base (omega (arith, b, e))))

number_enough : (base f g n : ℕ) → 2 ≤ base → n ≤ f → n ≤ g → number_within base f n ≡ number_within base g n
number_enough base zero zero n b h k = refl
number_enough base zero (suc g) n b h k = number_at_zero base (suc g) n b (omega (arith, h))
number_enough base (suc f) zero n b h k = sym (number_at_zero base (suc f) n b (omega (arith, k)))
number_enough base (suc f) (suc g) n b h k = elim (cases_lt n base) [
  | inl l ↦ when (nat_lt n base) ((48 + n) ∷ []) (number_within base f (n / base) ++ (48 + n % base) ∷ [])
      (lt_true n base l) ∙ sym (when (nat_lt n base) ((48 + n) ∷ [])
      (number_within base g (n / base) ++ (48 + n % base) ∷ []) (lt_true n base l))
  | inr l ↦ unless (nat_lt n base) ((48 + n) ∷ []) (number_within base f (n / base) ++ (48 + n % base) ∷ [])
      (le_false n base l) ∙ ap (λ x. x ++ (48 + n % base) ∷ [])
      (number_enough base f g (n / base) b (quotient_within base n f b l h) (quotient_within base n g b l k))
      ∙ sym (unless (nat_lt n base) ((48 + n) ∷ []) (number_within base g (n / base) ++ (48 + n % base) ∷ [])
      (le_false n base l))
]

-- a number below the base is one digit
pub number_small : (base n : ℕ) → 2 ≤ base → n < base → number base n ≡ (48 + n) ∷ []
unfolding number
number_small base zero b h = ap (λ x. (48 + x) ∷ []) (let e : 0 % base ≡ 0 = mod-eq_of_lt h in e)
number_small base (suc n) b h = when (nat_lt (suc n) base) ((48 + suc n) ∷ [])
    (number_within base n (suc n / base) ++ (48 + suc n % base) ∷ []) (lt_true (suc n) base h)

-- another number has its last digit behind the digits of its quotient
pub number_more : (base n : ℕ) → 2 ≤ base → base ≤ n → number base n ≡ number base (n / base) ++ (48 + n % base) ∷ []
unfolding number
number_more base zero b h = absurd (omega (arith, b, h))
number_more base (suc n) b h =
    unless (nat_lt (suc n) base) ((48 + suc n) ∷ [])
    (number_within base n (suc n / base) ++ (48 + suc n % base) ∷ []) (le_false (suc n) base h)
    ∙ ap (λ x. x ++ (48 + suc n % base) ∷ [])
    (number_enough base n (suc n / base) (suc n / base) b (quotient_within base (suc n) n b h (omega arith))
    (omega arith))

-- 0 and 1 are one digit
pub binary_small : (n : ℕ) → n < 2 → binary n ≡ (48 + n) ∷ []
binary_small n h = number_small 2 n (omega arith) h

-- another number has its last digit behind the digits of its half
pub binary_more : (n : ℕ) → 2 ≤ n → binary n ≡ binary (n / 2) ++ (48 + n % 2) ∷ []
binary_more n h = number_more 2 n (omega arith) h

-- the digits of a half, and the last digit behind them
pub binary_step : (before mid after : List ℕ) (n : ℕ) → 2 ≤ n → mid ≡ before ++ binary (n / 2)
    → after ≡ mid ++ (48 + n % 2) ∷ [] → after ≡ before ++ binary n
binary_step before mid after n h p q = q ∙ ap (λ x. x ++ (48 + n % 2) ∷ []) p
    ∙ append_assoc before (binary (n / 2)) ((48 + n % 2) ∷ []) ∙ ap (λ x. before ++ x) (sym (binary_more n h))

-- one digit more of a code
pub code_step : (before after all : List ℕ) (n : ℕ) → 94 ≤ n → before ++ code n ≡ all
    → after ≡ before ++ (33 + n % 94) ∷ [] → after ++ code (n / 94) ≡ all
code_step before after all n h p q = ap (λ x. x ++ code (n / 94)) q
    ∙ append_assoc before ((33 + n % 94) ∷ []) (code (n / 94)) ∙ ap (λ x. before ++ x) (sym (code_more n h)) ∙ p
