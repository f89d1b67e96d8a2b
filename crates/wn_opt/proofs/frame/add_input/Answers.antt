use Rattle.wn_opt.proofs.Framing.{input_wide, input_room, parts_input}
use Rattle.wn_opt.proofs.frame.add_input.Goals as goal

pub input-requires-clause-some : goal.input-requires-clause-some
input-requires-clause-some c =
    (input_wide c.args.net.now c.args.index c.args.input.now c.requires.whole c.requires.at).0

pub input-requires-clause-few : goal.input-requires-clause-few
input-requires-clause-few c =
    (input_wide c.args.net.now c.args.index c.args.input.now c.requires.whole c.requires.at).1

pub input-requires-clause-room : goal.input-requires-clause-room
input-requires-clause-room c =
    input_room c.args.net.now c.args.part.now c.args.index c.args.input.now c.requires.whole c.requires.before
    c.requires.at

pub returns : goal.returns
returns c =
    parts_input c.args.net.now c.args.part.now c.input.new.self c.args.index c.args.input.now c.in_ok-input.field-0
    c.requires.before c.requires.at c.in_ok-input.ensures.built
