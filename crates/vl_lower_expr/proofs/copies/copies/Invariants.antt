use Rattle.std.specs.Prelude.{◌*◌, ◌-◌, ◌≤◌}
use Rattle.vl_size.specs.Size as spec
use Rattle.wn_net.specs.Net.{width_at, value_at}
use Rattle.wn_net.specs.Changes.{AddsNodes, Shows}
use Rattle.vl_lower_expr.proofs.copies.copies.Given as goal

abbrev pub invariant-loop-made : goal.invariant-loop-made
invariant-loop-made l = record {
  some : 1 ≤ l.made;
  few : l.made ≤ l.count;
  adds : AddsNodes l.fn.net l.net;
  shows : Shows l.fn.net l.net (l.made * width_at l.fn.net l.node)
      (λ g. spec.copies l.made (width_at l.fn.net l.node) (value_at l.fn.net g l.node)) l.all;
}

abbrev pub decreases-loop-made : goal.decreases-loop-made
decreases-loop-made l = l.count - l.made
