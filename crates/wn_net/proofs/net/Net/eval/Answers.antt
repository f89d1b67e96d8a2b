use Rattle.std.specs.Prelude.{◌<◌, length}
use Rattle.std.proofs.Common.{ap, ◌∙◌, arith, length-set}
use Rattle.wn_net.specs.Net.{widths_of}
use Rattle.wn_net.proofs.Filled.{fits_here, next_here, whole_of}
use Rattle.wn_net.proofs.net.Net.eval.Goals as goal

pub node_value-value-requires-clause-fits : goal.node_value-value-requires-clause-fits
node_value-value-requires-clause-fits c =
    fits_here c.args.self.now _ c.deref.result.now c.loop-index.values c.as_slice-node-items.result.now
    c.loop-index.index c.node-item.result
    (c.deref.ensures.value ∙ c.self.invariant.widths ∙ ap widths_of c.self.view_is)
    (c.as_slice-node-items.ensures.value ∙ ap (λ n. n.nodes) c.self.view_is)
    (omega arith) c.node-item.is c.loop-index.invariant.leaves

pub loop-index-preserved : goal.loop-index-preserved
loop-index-preserved c =
    let nodes_are = c.as_slice-node-items.ensures.value ∙ ap (λ n. n.nodes) c.self.view_is in
    let room : c.loop-index.index < length c.loop-index.values = omega
    (arith, ap length nodes_are, c.loop-index.invariant.room) in
    record {
      room = length-set c.loop-index.values c.loop-index.index c.node_value-value.result ∙ c.loop-index.invariant.room;
      leaves =
          next_here c.args.self.now _ c.deref.result.now c.loop-index.values c.as_slice-node-items.result.now
          c.loop-index.index
          c.node_value-value.result c.node-item.result
          (whole_of _ _ _ c.self.invariant c.self.view_is) c.requires.given
          (c.deref.ensures.value ∙ c.self.invariant.widths ∙ ap widths_of c.self.view_is)
          nodes_are (omega arith) c.node-item.is room c.node_value-value.ensures c.loop-index.invariant.leaves;
    }
