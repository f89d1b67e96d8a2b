-- Values of one bit, and what a test in a cycle of a net comes to behind further nodes.
use Rattle.std.specs.Prelude.{◌≡◌, refl, ℕ, zero, suc, ◌+◌, ◌<◌, ◌^◌, ◌==◌, ◌&&◌, ◌||◌, not, Bool, true, false}
use Rattle.std.specs.Prelude.{bit_and, bit_or}
use Rattle.std.proofs.Common.{ap, ◌∙◌, arith}
use Rattle.fv_bits.specs.Bits.{bit, complement, sum}
use Rattle.wn_net.specs.Value.{Given}
use Rattle.wn_net.specs.Net.{Netlist, IsNet, IsNode, IsNodeOf, value_at}
use Rattle.wn_net.specs.Given.{IsGiven}
use Rattle.wn_net.specs.Changes.{AddsNodes}
use Rattle.wn_net.proofs.Moved.{value_within}
use Rattle.wn_net.proofs.Laws.{value_on}
use Rattle.ck_history.specs.Truths.{Tells, is_one}

pub bit_below : (net : Netlist) (g : Given) (id : ℕ) → IsNet net → IsGiven net g → IsNodeOf net 1 id
    → value_at net g id < 2
bit_below net g id whole given own = value_within net g 1 id whole given own

pub and_is : (a b : ℕ) → a < 2 → b < 2 → bit_and a b ≡ bit (a == 1 && b == 1)
and_is zero zero h k = refl
and_is zero (suc zero) h k = refl
and_is (suc zero) zero h k = refl
and_is (suc zero) (suc zero) h k = refl
and_is (suc (suc a)) b h k = absurd (omega arith)
and_is zero (suc (suc b)) h k = absurd (omega arith)
and_is (suc zero) (suc (suc b)) h k = absurd (omega arith)

pub or_is : (a b : ℕ) → a < 2 → b < 2 → bit_or a b ≡ bit (a == 1 || b == 1)
or_is zero zero h k = refl
or_is zero (suc zero) h k = refl
or_is (suc zero) zero h k = refl
or_is (suc zero) (suc zero) h k = refl
or_is (suc (suc a)) b h k = absurd (omega arith)
or_is zero (suc (suc b)) h k = absurd (omega arith)
or_is (suc zero) (suc (suc b)) h k = absurd (omega arith)

pub turned_is : (a : ℕ) → a < 2 → complement 1 a ≡ bit (not (a == 1))
turned_is zero h = refl
turned_is (suc zero) h = refl
turned_is (suc (suc a)) h = absurd (omega arith)

-- a bit that says yes is 1
pub set_is : (b : Bool) → (bit b == 1) ≡ b
set_is true = refl
set_is false = refl

-- a number of one bit by whether it is 1
pub bit_is : (a : ℕ) → a < 2 → a ≡ bit (a == 1)
bit_is zero h = refl
bit_is (suc zero) h = refl
bit_is (suc (suc a)) h = absurd (omega arith)

-- what a node tells, in its own net
pub told : (old new : Netlist) (m : Given → Bool) (id : ℕ) (g : Given) → Tells old new m id → IsGiven old g
    → is_one new g id ≡ m g
told old new m id g tells given = ap (λ n. n == 1) (tells.value g given) ∙ set_is (m g)

-- and in one with more nodes
pub told_on : (old now new : Netlist) (m : Given → Bool) (id : ℕ) (g : Given) → Tells old now m id → AddsNodes now new
    → IsGiven old g → is_one new g id ≡ m g
told_on old now new m id g tells adds given =
    ap (λ n. n == 1) (value_on now new g id adds tells.node.0) ∙ told old now m id g tells given

-- a test of a node that was there before
pub one_on : (old new : Netlist) (g : Given) (id : ℕ) → AddsNodes old new → IsNode old id
    → is_one new g id ≡ is_one old g id
one_on old new g id adds own = ap (λ n. n == 1) (value_on old new g id adds own)

pub next_is : (n : ℕ) → n < 2 ^ 64 → sum 65 n 1 ≡ n + 1
next_is n h = omega arith

pub ruleset truths = (and_is, or_is, turned_is, bit_below, set_is)
