-- Sums that stop at a limit, one term after the other.
use Rattle.std.specs.Prelude.{◌≡◌, refl, ℕ, ◌+◌, ◌<◌, ◌^◌, max}
use Rattle.std.proofs.Common.{ap, sym, ◌∙◌, arith}
use Rattle.vl_mean.specs.ConstantFaults.{capped}
use Rattle.vl_flow_weight.specs.declared.gates.Gates.{Gates}
use Rattle.vl_flow_weight.specs.Gates.{gates_at}
use Rattle.vl_flow_weight.proofs.Sums.{cap_add, cap_again, cap_bits}

-- what is summed up and what is left are all
pub record Sums (sum rest all : ℕ) : Type 0 where
  pub together : capped (sum + rest) ≡ capped all
  pub stopped : capped sum ≡ sum

pub sum_begun : (all : ℕ) → Sums 0 all all
sum_begun all = record {
  together = let none : 0 + all ≡ all = omega arith in ap capped none;
  stopped = omega arith;
}

pub sum_one : (sum term made next rest all : ℕ) → capped made ≡ capped term → next ≡ capped (sum + made)
    → Sums sum (term + rest) all → Sums next rest all
sum_one sum term made next rest all same e h =
    let front : capped next ≡ capped (sum + term) =
    ap capped e ∙ cap_again (sum + made) ∙ cap_add sum made sum term refl same in
    let assoc : (sum + term) + rest ≡ sum + (term + rest) = omega arith in record {
      together = cap_add next rest (sum + term) rest front refl ∙ ap capped assoc ∙ h.together;
      stopped = ap capped e ∙ cap_again (sum + made) ∙ sym e;
    }

pub sum_more : (sum term made next rest all : ℕ) → made ≡ capped term → next ≡ capped (sum + made)
    → Sums sum (term + rest) all → Sums next rest all
sum_more sum term made next rest all is e h =
    sum_one sum term made next rest all (ap capped is ∙ cap_again term) e h

pub sum_done : (sum all : ℕ) → Sums sum 0 all → sum ≡ capped all
sum_done sum all h =
    let none : sum ≡ sum + 0 = omega arith in
    sym h.stopped ∙ ap capped none ∙ h.together

pub within : (sum all : ℕ) → sum < 2 ^ 64 → sum ≡ all → sum ≡ capped all
within sum all few e = let small : sum ≡ capped sum = omega (arith, few) in small ∙ ap capped e

-- ---- with bits that may stop at the limit too

pub larger_capped : (bits own large : ℕ) → own < 2 ^ 64 → large ≡ max (capped bits) own
    → large ≡ capped (max bits own)
larger_capped bits own large less e = e ∙ omega (arith, less)

pub gates_capped : (g : Gates) (n : ℕ) → gates_at g (capped n) ≡ gates_at g n
gates_capped g n = cap_bits g.fixed g.per_bit g.per_square n
