-- Between functions: The bits of nets that no driver may assign. Rule of this project.
use Rattle.std.specs.Prelude.{◌≡◌, ◌≤◌, ℕ, List, length, ◌&&◌, not, nat_lt, Option, Some, None, slice_get}
use Rattle.vl_size.specs.declared.decl.Decl.{Decl}
use Rattle.vl_mean.specs.FlatLaw.{is_net}
use Rattle.vl_mean.specs.declared.driver.Driver.{Driver}
use Rattle.vl_flow_spec.specs.Refusals.{driven_in}
use Rattle.fv_bit_sets.specs.declared.step.Step.{Step}
use Rattle.fv_bit_sets.specs.Cells.{has}
use Rattle.vl_flow_cells.specs.Numbered.{all_cells}
use Rattle.vl_flow_order.specs.CellGroups.{IsCellAt}

abbrev pub IsUndriven : List Decl → List Driver → List Step → Type 0
IsUndriven ds drivers made =
    (place cell bit : ℕ) (d : Decl) (n : List ℕ) → slice_get ds place ≡ Some d → IsCellAt ds cell place
    → slice_get (all_cells ds) cell ≡ Some n
    → has made cell bit ≡ ((is_net d && nat_lt bit d.width) && not (driven_in ds drivers n bit))

-- the bit, with the name that has the cell
pub record IsBitOf (ds : List Decl) (cell bit : ℕ) (found : List ℕ × ℕ) : Type 0 where
  pub place : ℕ
  pub decl : Decl
  pub at : slice_get ds place ≡ Some decl
  pub of : IsCellAt ds cell place
  pub is : found ≡ (decl.name, bit)

-- none where no name has the cell
abbrev pub TellsBit : List Decl → ℕ → ℕ → Option (List ℕ × ℕ) → Type 0
TellsBit ds cell bit None = length (all_cells ds) ≤ cell
TellsBit ds cell bit (Some found) = IsBitOf ds cell bit found
