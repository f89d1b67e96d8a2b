-- Induction on the length.
use Rattle.std.specs.Prelude.{◌≡◌, refl, ℕ, zero, suc, ◌+◌, ◌-◌, ◌<◌, ◌≤◌, Bool, true, false, nat_lt}
use Rattle.std.proofs.Common.{ap, sym, ◌∙◌, arith}
use Rattle.std.proofs.lemmas.Bool.Decides.{nat_tests}
use Rattle.bm_induct.specs.Lengths.{EachLength, HoldsFirst, HoldsBehind}

-- all cycles up to n
up_to : (holds : ℕ → Bool) (k last n : ℕ) → HoldsFirst holds k last → HoldsBehind holds k last
    → (j : ℕ) → 1 ≤ j → j ≤ n → j ≤ last → holds j ≡ true
up_to holds k last zero first behind j some few within = absurd (omega (arith, some, few))
up_to holds k last (suc n) first behind j some few within =
    by (nat_lt k j) refl (up_to holds k last n first behind)
  where
    by : (b : Bool) → nat_lt k j ≡ b → ((i : ℕ) → 1 ≤ i → i ≤ n → i ≤ last → holds i ≡ true) → holds j ≡ true
    by true e earlier =
        let more : k < j = grind (arith, nat_tests, e) in
        let here : j - k + k ≡ j = omega (arith, more) in
        ap holds (sym here) ∙ behind (j - k) (omega (arith, more)) (omega (arith, more, within))
        (λ t less. earlier (j - k + t) (omega (arith, more)) (omega (arith, more, less, few))
        (omega (arith, more, less, within)))
    by false e earlier =
        let most : j ≤ k = grind (arith, nat_tests, e) in
        first j some most within

pub each_length : EachLength
each_length holds k last first behind j some within =
    up_to holds k last j first behind j some (omega arith) within
