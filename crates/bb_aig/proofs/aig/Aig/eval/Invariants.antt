use Rattle.std.proofs.Common.{◌≡◌, ◌+◌, length, take, drop}
use Rattle.bb_aig.specs.Graph.{values_of, of_list}
use Rattle.bb_aig.proofs.Values.{Leaves}
use Rattle.bb_aig.proofs.aig.Aig.eval.Given as goal

abbrev pub invariant-loop-index : goal.invariant-loop-index
invariant-loop-index l = record {
  room : length l.values ≡ length l.self;
  leaves : Leaves (of_list l.inputs) (take (l.index + 1) l.values) (drop l.index l.behind)
      (values_of l.self (of_list l.inputs));
}
