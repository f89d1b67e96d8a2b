use Rattle.std.proofs.Common.{drop}
use Rattle.vl_tree.specs.Lval.{lvals}
use Rattle.vl_mean.specs.FlatLaw.{all_target_sizes}
use Rattle.vl_flow_weight.proofs.Adding.{Sums}
use Rattle.vl_flow_weight.proofs.target.+bits.Given as goal

abbrev pub invariant-loop-part : goal.invariant-loop-part
invariant-loop-part l =
    Sums l.bits (all_target_sizes l.decls (lvals (drop l.part-index l.part-items)))
    (all_target_sizes l.decls (lvals l.part-items))
