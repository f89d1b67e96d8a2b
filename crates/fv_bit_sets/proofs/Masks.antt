-- Bits of what operations on masks make.
use Rattle.std.specs.Prelude.{◌≡◌, refl, ℕ, zero, suc, ◌-◌, ◌<◌, ◌≤◌, ◌^◌, ◌==◌, min}
use Rattle.std.specs.Prelude.{max, true, false, ◌&&◌, ◌||◌, not}
use Rattle.std.specs.Prelude.{bit_and, bit_or}
use Rattle.std.specs.Int.{bit_at, bit_not, w128}
use Rattle.std.proofs.Common.{ap, sym, ◌∙◌, arith, ◌⊎◌, inl, inr}
use Rattle.std.proofs.lemmas.Bool.{cases_lt}
use Rattle.std.proofs.lemmas.Nat.Bits.{bit_at_and, bit_at_or, bit_at_not, bit_at-lt, bit_at_above, bit_at-zero}
use Rattle.std.proofs.lemmas.Nat.Bits.{bit_at-trailing_zeros}
use Rattle.std.specs.Int.{trailing_zeros}
use Rattle.fv_bit_sets.specs.Cells.{is_set}

two : (x : ℕ) → x < 2 → (x ≡ 0) ⊎ (x ≡ 1)
two zero h = inl refl
two (suc zero) h = inr refl
two (suc (suc x)) h = absurd (omega (arith, h))

max_test : (x y : ℕ) → x < 2 → y < 2 → (max x y == 1) ≡ ((x == 1) || (y == 1))
max_test x y h k = by (two x h) (two y k)
  where
    at : (a b : ℕ) → x ≡ a → y ≡ b → (max a b == 1) ≡ ((a == 1) || (b == 1))
        → (max x y == 1) ≡ ((x == 1) || (y == 1))
    at a b e f r =
        ap (λ z. max z y == 1) e ∙ ap (λ z. max a z == 1) f ∙ r ∙ ap (λ z. (z == 1) || (b == 1)) (sym e)
        ∙ ap (λ z. (x == 1) || (z == 1)) (sym f)

    by : (x ≡ 0) ⊎ (x ≡ 1) → (y ≡ 0) ⊎ (y ≡ 1) → (max x y == 1) ≡ ((x == 1) || (y == 1))
    by (inl e) (inl f) = at 0 0 e f refl
    by (inl e) (inr f) = at 0 1 e f refl
    by (inr e) (inl f) = at 1 0 e f refl
    by (inr e) (inr f) = at 1 1 e f refl

min_test : (x y : ℕ) → x < 2 → y < 2 → (min x y == 1) ≡ ((x == 1) && (y == 1))
min_test x y h k = by (two x h) (two y k)
  where
    at : (a b : ℕ) → x ≡ a → y ≡ b → (min a b == 1) ≡ ((a == 1) && (b == 1))
        → (min x y == 1) ≡ ((x == 1) && (y == 1))
    at a b e f r =
        ap (λ z. min z y == 1) e ∙ ap (λ z. min a z == 1) f ∙ r ∙ ap (λ z. (z == 1) && (b == 1)) (sym e)
        ∙ ap (λ z. (x == 1) && (z == 1)) (sym f)

    by : (x ≡ 0) ⊎ (x ≡ 1) → (y ≡ 0) ⊎ (y ≡ 1) → (min x y == 1) ≡ ((x == 1) && (y == 1))
    by (inl e) (inl f) = at 0 0 e f refl
    by (inl e) (inr f) = at 0 1 e f refl
    by (inr e) (inl f) = at 1 0 e f refl
    by (inr e) (inr f) = at 1 1 e f refl

turned_test : (x : ℕ) → x < 2 → (1 - x == 1) ≡ not (x == 1)
turned_test x h = by (two x h)
  where
    at : (a : ℕ) → x ≡ a → (1 - a == 1) ≡ not (a == 1) → (1 - x == 1) ≡ not (x == 1)
    at a e r = ap (λ z. 1 - z == 1) e ∙ r ∙ ap (λ z. not (z == 1)) (sym e)

    by : (x ≡ 0) ⊎ (x ≡ 1) → (1 - x == 1) ≡ not (x == 1)
    by (inl e) = at 0 e refl
    by (inr e) = at 1 e refl

pub set_or : (a b i : ℕ) → is_set (bit_or a b) i ≡ (is_set a i || is_set b i)
set_or a b i =
    ap (λ z. z == 1) (bit_at_or a b i) ∙ max_test (bit_at a i) (bit_at b i) (bit_at-lt a i) (bit_at-lt b i)

pub set_and : (a b i : ℕ) → is_set (bit_and a b) i ≡ (is_set a i && is_set b i)
set_and a b i =
    ap (λ z. z == 1) (bit_at_and a b i) ∙ min_test (bit_at a i) (bit_at b i) (bit_at-lt a i) (bit_at-lt b i)

-- a number of 128 bits has none behind them
none_above : (a i : ℕ) → a < 2 ^ 128 → 128 ≤ i → is_set a i ≡ false
none_above a i less past = ap (λ z. z == 1) (bit_at_above a 128 i less past)

pub set_and_not : (a b i : ℕ) → a < 2 ^ 128 → b < 2 ^ 128
    → is_set (bit_and a (bit_not w128 b)) i ≡ (is_set a i && not (is_set b i))
set_and_not a b i less few = by (cases_lt i 128)
  where
    by : (i < 128) ⊎ (128 ≤ i) → is_set (bit_and a (bit_not w128 b)) i ≡ (is_set a i && not (is_set b i))
    by (inl h) =
        set_and a (bit_not w128 b) i ∙ ap (λ z. is_set a i && z)
        (ap (λ z. z == 1) (bit_at_not w128 b i few h) ∙ turned_test (bit_at b i) (bit_at-lt b i))
    by (inr h) =
        set_and a (bit_not w128 b) i ∙ ap (λ z. z && is_set (bit_not w128 b) i) (none_above a i less h)
        ∙ ap (λ z. z && not (is_set b i)) (sym (none_above a i less h))

pub ruleset masks = (set_or, set_and, set_and_not)

pub set_zero : (i : ℕ) → is_set 0 i ≡ false
set_zero i = ap (λ z. z == 1) (bit_at-zero i)

-- a mask that isn't 0 has a bit
pub some_set : (a : ℕ) → 0 < a → a < 2 ^ 128 → (i : ℕ) × (is_set a i ≡ true)
some_set a h less =
    let r = bit_at-trailing_zeros w128 a h less in (trailing_zeros w128 a, ap (λ z. z == 1) r.1)
