use Rattle.std.proofs.Common.{◌≡◌, length, take, drop}
use Rattle.wn_net.specs.Net.{shape_of, widths_of, values_of}
use Rattle.wn_net.specs.Given.{given}
use Rattle.wn_net.proofs.Filled.{Leaves}
use Rattle.wn_net.proofs.net.Net.eval.Given as goal

abbrev pub invariant-loop-index : goal.invariant-loop-index
invariant-loop-index l =
    let g = given l.inputs l.state in
    record {
      room : length l.values ≡ length l.self.nodes;
      leaves : Leaves (shape_of l.self) g (take l.index (widths_of l.self)) (take l.index l.values)
          (drop l.index l.self.nodes)
          (widths_of l.self) (values_of l.self g);
    }
