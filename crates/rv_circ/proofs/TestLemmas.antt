-- Bits that tell tests.
use Rattle.std.specs.Prelude.{◌≡◌, refl, ℕ, zero, suc, ◌+◌, ◌-◌, ◌<◌, ◌==◌, Bool, true, false, if◌then◌else◌}
use Rattle.std.proofs.Common.{◌∙◌, arith}
use Rattle.fv_bits.specs.Bits.{bit, part}
use Rattle.rv_table.specs.Agree.{has, same}
use Rattle.rv_table.specs.Fields.{field}
use Rattle.rv_words.proofs.BitLemmas.{tests, pairs}
use Rattle.wn_net.proofs.Laws.{additions}

pub told : (n : ℕ) → n < 2 → n ≡ bit (n == 1)
told zero h = refl
told (suc zero) h = refl
told (suc (suc n)) h = absurd (omega arith)

-- a bit of a mask tells whether it has the byte
pub has_is : (index mask : ℕ) → part index 1 mask ≡ bit (has mask index)
unfolding field
has_is index mask = told (part index 1 mask) (omega arith) ∙ (λ i. bit (part index (one i) mask == 1))
  where
    one : 1 ≡ index + 1 - index
    one = omega arith

pub same_is : (a b : ℕ) → a < 2 → b < 2 → bit (a == b) ≡ bit (same (a == 1) (b == 1))
same_is zero zero h k = refl
same_is zero (suc zero) h k = refl
same_is (suc zero) zero h k = refl
same_is (suc zero) (suc zero) h k = refl
same_is zero (suc (suc n)) h k = absurd (omega arith)
same_is (suc zero) (suc (suc n)) h k = absurd (omega arith)
same_is (suc (suc n)) b h k = absurd (omega arith)

pub chosen_is : (t a b : Bool) → (if bit t == 1 then bit a else bit b) ≡ bit (if t then a else b)
chosen_is true a b = refl
chosen_is false a b = refl

pub ruleset agreements = (additions, tests, pairs, chosen_is)
