-- Between functions: What the parts of a concatenation come to while a design is weighed. Rule of this project.
use Rattle.std.specs.Prelude.{◌≡◌, List}
use Rattle.vl_tree.specs.Expr.{Exprs}
use Rattle.vl_size.specs.declared.decl.Decl.{Decl}
use Rattle.vl_size.specs.Size.{are_constant}
use Rattle.vl_mean.specs.ConstantFaults.{capped}
use Rattle.vl_flow_spec.specs.Weight.{parts_weight}
use Rattle.vl_flow_weight.specs.declared.expr.Parts.{Parts}

-- their gates, up to 2^64 - 1, and whether none of them has a name
pub record ArePartsOf (ds : List Decl) (es : Exprs) (x : Parts) : Type 0 where
  pub weight_is : x.weight ≡ capped (parts_weight ds es)
  pub constant_is : x.are_constant ≡ are_constant es
