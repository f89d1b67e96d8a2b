use Rattle.ck_ask.proofs.Sought.{zb_asked}
use Rattle.ck_ask.proofs.asking.ask_zb.Goals as goal

pub returns-clause-tells : goal.returns-clause-tells
returns-clause-tells c = λ opts.
    zb_asked c.args.net.now c.differs_at.new.net c.args.port.now c.args.check.now opts _ c.requires.port
    c.requires.check.channel c.in_ok-id.ensures.adds c.nodes.ensures.whole c.in_ok-id.ensures.tells
