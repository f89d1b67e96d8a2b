use Rattle.std.specs.Prelude.{None}
use Rattle.std.proofs.Common.{length, ap, arith}
use Rattle.fv_graph.proofs.Lists.{length_more}
use Rattle.wn_opt.proofs.Copying.{none_placed}
use Rattle.wn_opt.proofs.copy.no_places.Goals as goal

pub nodes-preserved : goal.nodes-preserved
nodes-preserved c =
    let is = c.in_ok-push.ensures.items in
    record {
      few = omega (
        arith,
        ap length is,
        length_more c.nodes.places.items None,
        c.nodes-test.true,
        c.len.ensures,
      );
      none = none_placed c.nodes.places.items c.push.new.self.items is c.nodes.invariant.none;
    }
