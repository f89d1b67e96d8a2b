use Rattle.std.specs.Prelude.{◌<◌, ◌-◌, length, drop}
use Rattle.wn_net.specs.Net.{value_at}
use Rattle.wn_net.specs.Changes.{AddsNodes, Shows}
use Rattle.vl_lower_spec.specs.Maps.{gathered}
use Rattle.vl_lower_state.proofs.bits.joined_bits.Given as goal

abbrev pub invariant-loop-left : goal.invariant-loop-left
invariant-loop-left l = record {
  within : l.left < length l.bits;
  adds : AddsNodes l.fn.net l.net;
  shows : Shows l.fn.net l.net (length l.bits - l.left) (λ g. gathered (value_at l.fn.net g l.node) (drop l.left l.bits))
      l.joined;
}

abbrev pub decreases-loop-left : goal.decreases-loop-left
decreases-loop-left l = l.left
