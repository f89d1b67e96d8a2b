use Rattle.std.specs.Prelude.{◌≡◌, ◌++◌, take}
use Rattle.wn_net.specs.Changes.{Keeps}
use Rattle.vl_lower.proofs.close.assume_all.Given as goal

abbrev pub invariant-loop-at : goal.invariant-loop-at
invariant-loop-at l = record {
  new : l.net ≡ record l.fn.net { assumes = l.fn.net.assumes ++ take l.at l.nodes };
  keeps : Keeps l.fn.net l.net;
}
