use Rattle.vl_elab_params.proofs.Over.{left_again}
use Rattle.vl_elab_params.proofs.reached.Reached.take_back.Goals as goal

pub returns : goal.returns
returns c reached outer e =
    left_again reached c.take.result c.take-2.result c.args.around.now c.take.new.self c.take-2.new.self outer
    c.take.ensures.level c.take.ensures.rest c.take-2.ensures.level c.take-2.ensures.rest e
