use Rattle.fv_bit_sets.specs.Cells.{has}
use Rattle.vl_flow_weight.proofs.Sums.{two}
use Rattle.vl_flow_order.proofs.Naming.{both_named}
use Rattle.vl_flow_weight.proofs.branch.Branch.with.Goals as goal

pub returns : goal.returns
returns c ds m n names others g h =
    let self = c.args.self.now in
    let other = c.args.other.now in record {
      weight_is = two m n self.weight other.weight c.plus.result g.weight_is h.weight_is c.plus.ensures;
      names_are = both_named ds names others (has self.names) (has other.names) (has c.in_ok-names.names)
          c.in_ok-names.ensures g.names_are h.names_are;
    }
