use Rattle.std.specs.Prelude.{IfOk, Option}
use Rattle.std.specs.Option.{option_copied}
use Rattle.std.proofs.Common.{ap, sym, ◌∙◌, subst}
use Rattle.rvfi_port.specs.declared.port.Channel.{Channel}
use Rattle.rvfi_port.specs.Ports.{AreChannelNodes}
use Rattle.ck_history.specs.Truths.{Tells}
use Rattle.ck_cover.proofs.Channels.{at_place}
use Rattle.ck_ask.specs.Asked.{differs_at}
use Rattle.ck_ask.proofs.asking.differs_at.Goals as goal

pub zb_monitor-requires : goal.zb_monitor-requires
zb_monitor-requires c =
    at_place (AreChannelNodes c.args.net.now) c.args.port.now.channels c.args.index c.in-Some.channel.now
    (sym c.get.ensures.value ∙ ap option_copied c.in-Some.is) c.requires.channels

pub returns-in-Some-clause-tells : goal.returns-in-Some-clause-tells
returns-in-Some-clause-tells c =
    let P : Option Channel → Type 0 = λ o. IfOk c.zb_monitor.result
    (Tells c.args.net.now c.zb_monitor.new.net (λ g. differs_at c.args.net.now g o c.args.row)) in
    subst P (ap option_copied (sym c.in-Some.is) ∙ c.get.ensures.value) c.zb_monitor.ensures.shows
