use Rattle.std.proofs.Common.{◌≡◌, List, ℕ, Some}
use Rattle.std.specs.Prelude.{true}
use Rattle.vl_flow_spec.specs.Weight.{widths_of}
use Rattle.fv_bit_sets.specs.Cells.{has}
use Rattle.vl_flow_order.proofs.Visiting.{ahead}
use Rattle.vl_flow_order.specs.Names.{AreNames}
use Rattle.vl_flow_weight.proofs.Adding.{Sums}
use Rattle.vl_flow_weight.proofs.Merging.{from_next}
use Rattle.vl_flow_weight.proofs.names.merge_weight.Given as goal

abbrev pub invariant-loop-next : goal.invariant-loop-next
invariant-loop-next l = record {
  total : (all : List (List ℕ)) → AreNames l.decls all (has l.names)
      → Sums l.weight (from_next all l.decls l.next) (widths_of l.decls all);
  set : (place : ℕ) → l.next ≡ Some place → (bit : ℕ) × (has l.names place bit ≡ true);
}

abbrev pub decreases-loop-next : goal.decreases-loop-next
decreases-loop-next l = ahead l.next
