use Rattle.std.proofs.Common.{◌≡◌, ◌∙◌, ℕ, ap, arith, bit_and, nat_eq}
use Rattle.std.specs.Int.{bit_at}
use Rattle.std.proofs.lemmas.Nat.Bits.{and_pow}
use Rattle.vl_flow_check.proofs.first.has_name.Goals as goal

-- the lowest bit of a number
lowest : (m : ℕ) → bit_and m 1 ≡ bit_at m 0
lowest m = and_pow m 0 ∙ omega arith

pub returns : goal.returns
returns c = ap (λ n. nat_eq n 1) (lowest c.mask.result) ∙ c.mask.ensures 0
