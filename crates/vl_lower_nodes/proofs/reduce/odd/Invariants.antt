use Rattle.std.specs.Prelude.{◌-◌, ◌/◌, ◌^◌, ◌≤◌}
use Rattle.fv_bits.specs.Bits.{bit, parity}
use Rattle.wn_net.specs.Net.{width_at, value_at}
use Rattle.wn_net.specs.Changes.{AddsNodes, Shows}
use Rattle.vl_lower_nodes.proofs.reduce.odd.Given as goal

abbrev pub invariant-loop-place : goal.invariant-loop-place
invariant-loop-place l =
    let net = l.fn.net in
    let width = width_at net l.a in
    record {
      below : l.place ≤ width;
      adds : AddsNodes net l.net;
      shows : Shows net l.net 1 (λ g. bit (parity (width - l.place) (value_at net g l.a / 2 ^ l.place))) l.odd;
    }

abbrev pub decreases-loop-place : goal.decreases-loop-place
decreases-loop-place l = l.place
