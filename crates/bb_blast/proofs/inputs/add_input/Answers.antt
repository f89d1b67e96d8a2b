use Rattle.bb_aig.specs.Graph.{inputs_of}
use Rattle.bb_blast.proofs.Sources.{with_input, one_more, input_lit, placed_one}
use Rattle.bb_blast.proofs.inputs.add_input.Goals as goal

pub returns-clause-inputs : goal.returns-clause-inputs
returns-clause-inputs c = with_input c.args.aig.now c.input.new.self c.in_ok-lit.lit c.requires c.in_ok-lit.ensures.adds

pub returns-clause-counted : goal.returns-clause-counted
returns-clause-counted c = one_more c.args.aig.now c.input.new.self c.in_ok-lit.lit c.in_ok-lit.ensures.adds

pub returns-clause-lit : goal.returns-clause-lit
returns-clause-lit c = input_lit c.args.aig.now c.input.new.self c.in_ok-lit.lit c.requires c.in_ok-lit.ensures.adds

pub returns-clause-placed : goal.returns-clause-placed
returns-clause-placed c =
    placed_one c.args.source c.args.bit (inputs_of c.args.aig.now) c.in_ok-lit.lit c.args.places.now c.push.new.self
    (input_lit c.args.aig.now c.input.new.self c.in_ok-lit.lit c.requires c.in_ok-lit.ensures.adds)
    c.in_ok-push.ensures.ok
