-- Between functions: Quotient and remainder of the upper bits of a word: how far a division has come (rule of this
-- project).
use Rattle.std.specs.Prelude.{◌≡◌, ℕ, ◌/◌, ◌%◌, ◌^◌}
use Rattle.wn_net.specs.Net.{Netlist, IsNodeOf}
use Rattle.rv_rows.specs.declared.division.Division.{Division}

-- the bits of a from `at` on, divided by b
pub record IsDivided (a b at q r : ℕ) : Type 0 where
  pub quotient : q ≡ a / 2 ^ at / b
  pub rest : r ≡ a / 2 ^ at % b

pub record AreDivision (net : Netlist) (d : Division) : Type 0 where
  pub quotient : IsNodeOf net 32 d.quotient
  pub rest : IsNodeOf net 32 d.rest
