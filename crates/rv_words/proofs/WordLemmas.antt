-- Words: what nodes compute, in the words of the table.
use Rattle.std.specs.Prelude.{◌≡◌, ℕ, zero, suc, ◌-◌, ◌*◌, ◌/◌, ◌%◌, ◌^◌}
use Rattle.std.specs.Prelude.{◌<◌, ◌≤◌}
use Rattle.std.proofs.Common.{ap, arith}
use Rattle.std.proofs.lemmas.Nat.{one_shl}
use Rattle.fv_bits.specs.Bits.{part, joined}
use Rattle.rv_table.specs.Arithmetic.{amount}
use Rattle.rv_table.specs.Fields.{field}
use Rattle.wn_net.specs.Value.{Given}
use Rattle.wn_net.specs.Net.{Netlist, IsNet, IsNodeOf, value_at}
use Rattle.wn_net.specs.Given.{IsGiven}
use Rattle.wn_net.proofs.Moved.{value_within}

pub low_five : (b : ℕ) → part 0 5 b ≡ amount b
low_five b = omega arith

pub even_is : (a : ℕ) → a < 2 ^ 32 → joined 1 (field 31 1 a) 0 ≡ a - a % 2
unfolding field
even_is a h = omega arith

pub whole_is : (a : ℕ) → a < 2 ^ 32 → joined 2 (field 31 2 a) 0 ≡ a - a % 4
unfolding field
whole_is a h = omega arith

pub word_below : (net : Netlist) (g : Given) (id : ℕ) → IsNet net → IsGiven net g → IsNodeOf net 32 id
    → value_at net g id < 2 ^ 32
word_below net g id whole given own = value_within net g 32 id whole given own

pub ruleset numbers = (low_five, even_is, whole_is, word_below)

-- ---- places of bytes in a word

pub low_part : (n w : ℕ) → part 0 w n ≡ n % 2 ^ w
low_part n w = ap (λ m. m % 2 ^ w) (div_1 n)
  where
    div_1 : (n : ℕ) → n / 2 ^ 0 ≡ n
    div_1 n = omega arith

pub low_two : (a : ℕ) → part 0 2 a ≡ a % 4
low_two a = omega arith

pub low_one : (a : ℕ) → part 0 1 a ≡ a % 2
low_one a = omega arith

pub eight_times : (p : ℕ) → joined 3 p 0 ≡ 8 * p
eight_times p = omega arith

pub rest_by_one : (a : ℕ) → (a % 1) ≡ 0
rest_by_one a = omega arith

pub mask_small : (s : ℕ) → s ≤ 4 → 1 * 2 ^ s % 2 ^ 32 - 1 < 16
mask_small zero h = omega arith
mask_small (suc zero) h = omega arith
mask_small (suc (suc zero)) h = omega arith
mask_small (suc (suc (suc zero))) h = omega arith
mask_small (suc (suc (suc (suc zero)))) h = omega arith
mask_small (suc (suc (suc (suc (suc n))))) h = absurd (omega arith)

pub ruleset places = (
  low_part,
  low_two,
  low_one,
  eight_times,
  rest_by_one,
  mask_small,
  whole_is,
  word_below,
  one_shl,
)
