use Rattle.std.proofs.lemmas.Result.{IfOk-weaker}
use Rattle.rvf_graph.proofs.Telling.{tells}
use Rattle.rvf_graph.proofs.text.graph_text.Goals as goal

pub returns : goal.returns
returns c =
    λ ps channels wants loaded.
    IfOk-weaker c.written.result _ _
    (λ t text. tells ps c.args.net.now c.args.names.now channels wants c.args.port.now c.args.question.now c.args.opts
    loaded c.nodes.ensures.whole c.requires.question c.in_ok-made.made c.in_ok-made.ensures t text) c.written.ensures
