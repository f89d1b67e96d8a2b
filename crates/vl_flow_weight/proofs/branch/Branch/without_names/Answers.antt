use Rattle.fv_bit_sets.specs.Cells.{has}
use Rattle.vl_flow_order.proofs.Naming.{none_named}
use Rattle.vl_flow_weight.proofs.branch.Branch.without_names.Goals as goal

pub returns : goal.returns
returns c ds m e = record {
  weight_is = e;
  names_are = none_named ds (has c.none.result) c.none.ensures;
}
