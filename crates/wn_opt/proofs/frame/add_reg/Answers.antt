use Rattle.std.specs.Prelude.{length}
use Rattle.wn_opt.proofs.Framing.{reg_own, reg_room, parts_reg}
use Rattle.wn_opt.proofs.frame.add_reg.Goals as goal

pub reg-requires-clause-some : goal.reg-requires-clause-some
reg-requires-clause-some c =
    (reg_own c.args.net.now c.args.index c.args.reg.now c.requires.whole c.requires.at).width.0

pub reg-requires-clause-few : goal.reg-requires-clause-few
reg-requires-clause-few c =
    (reg_own c.args.net.now c.args.index c.args.reg.now c.requires.whole c.requires.at).width.1

pub reg-requires-clause-init : goal.reg-requires-clause-init
reg-requires-clause-init c =
    (reg_own c.args.net.now c.args.index c.args.reg.now c.requires.whole c.requires.at).init

pub reg-requires-clause-room : goal.reg-requires-clause-room
reg-requires-clause-room c =
    reg_room c.args.net.now c.args.part.now (length c.args.net.now.inputs) c.args.index 0 c.args.reg.now
    c.requires.whole c.requires.before c.requires.at

pub returns : goal.returns
returns c =
    parts_reg c.args.net.now c.args.part.now c.reg.new.self c.args.index c.args.reg.now c.in_ok-reg.field-0
    c.requires.before c.requires.at c.in_ok-reg.ensures.built
