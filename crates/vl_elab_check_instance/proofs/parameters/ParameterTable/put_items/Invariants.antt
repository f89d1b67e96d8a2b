use Rattle.std.proofs.Common.{◌≤◌, length}
use Rattle.std.specs.Prelude.{drop}
use Rattle.vl_tree.specs.Item.{items}
use Rattle.vl_elab_spec.specs.Items.{items_parameters}
use Rattle.vl_elab_check_instance.specs.Parameters.{Finds}
use Rattle.vl_elab_check_instance.proofs.parameters.ParameterTable.put_items.Given as goal

abbrev pub invariant-loop-place : goal.invariant-loop-place
invariant-loop-place l = record {
  within : l.place ≤ length l.all;
  finds : Finds l.self l.headers l.all (items_parameters (items (drop l.place l.all)));
}

abbrev pub decreases-loop-place : goal.decreases-loop-place
decreases-loop-place l = l.place
