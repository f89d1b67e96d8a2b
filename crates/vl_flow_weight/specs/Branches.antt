-- Between functions: What statements come to while a design is weighed. Rule of this project.
use Rattle.std.specs.Prelude.{◌≡◌, ℕ, List}
use Rattle.vl_size.specs.declared.decl.Decl.{Decl}
use Rattle.vl_mean.specs.ConstantFaults.{capped}
use Rattle.fv_bit_sets.specs.Cells.{has}
use Rattle.vl_flow_weight.specs.declared.branch.Branch.{Branch}
use Rattle.vl_flow_order.specs.Names.{AreNames}

-- they weigh so much, up to 2^64 - 1, and assign these names
pub record IsBranchOf (ds : List Decl) (weight : ℕ) (names : List (List ℕ)) (x : Branch) : Type 0 where
  pub weight_is : x.weight ≡ capped weight
  pub names_are : AreNames ds names (has x.names)
