use Rattle.std.proofs.Common.{ap, sym, ◌∙◌, slice_set, ◌++◌, ◌∷◌, []}
use Rattle.fv_graph.proofs.Rows.{row_at}
use Rattle.vl_flow_order.proofs.Growing.{adds_edge}
use Rattle.vl_flow_order.proofs.edge.add_edge.Goals as goal

pub returns : goal.returns
returns c =
    let g = c.args.graph.now.items in
    adds_edge g (slice_set g c.args.from c.push.new.self) c.args.from c.args.to c.requires
    (ap (slice_set g c.args.from) (c.in_ok-push.ensures.ok ∙ ap (λ r. r ++ c.args.to ∷ [])
    (sym (row_at g c.args.from c.index_mut.result.now c.requires c.index_mut.ensures.value))))
