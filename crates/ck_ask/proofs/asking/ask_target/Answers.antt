use Rattle.ck_ask.proofs.Sought.{target_asked}
use Rattle.ck_ask.proofs.asking.ask_target.Goals as goal

pub returns-clause-tells : goal.returns-clause-tells
returns-clause-tells c = λ opts.
    target_asked c.args.net.now c.goal.new.net c.args.port.now c.args.target.now opts _ c.requires.port
    c.requires.target.channel c.in_ok-id.ensures.adds c.nodes.ensures.whole c.in_ok-id.ensures.tells
