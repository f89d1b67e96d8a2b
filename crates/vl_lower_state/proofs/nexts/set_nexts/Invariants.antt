use Rattle.std.specs.Prelude.{◌≡◌, take}
use Rattle.wn_net.specs.Changes.{Keeps}
use Rattle.vl_lower_state.specs.Nexts.{with_nexts}
use Rattle.vl_lower_state.proofs.nexts.set_nexts.Given as goal

abbrev pub invariant-loop-at : goal.invariant-loop-at
invariant-loop-at l = record {
  new : l.net ≡ record l.fn.net { regs = with_nexts (take l.at l.nodes) l.fn.net.regs };
  keeps : Keeps l.fn.net l.net;
}
