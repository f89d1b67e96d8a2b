use Rattle.fv_graph.proofs.Rests.{one_more_node}
use Rattle.fv_graph.proofs.circle.nodes.Goals as goal

pub loop-step-preserved : goal.loop-step-preserved
loop-step-preserved c =
    one_more_node c.args.path.now c.loop-step.step-index _ c.loop-step.found c.push.new.self c.loop-step-test.true
    c.loop-step.invariant c.in_ok-push.ensures.ok
