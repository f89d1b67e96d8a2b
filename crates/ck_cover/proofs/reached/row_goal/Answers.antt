use Rattle.std.specs.Prelude.{IfOk, Option, None, Some}
use Rattle.std.specs.Option.{option_copied}
use Rattle.std.proofs.Common.{ap, sym, ◌∙◌, subst}
use Rattle.rvfi_port.specs.declared.port.Channel.{Channel}
use Rattle.rvfi_port.specs.Ports.{AreChannelNodes}
use Rattle.ck_history.specs.Truths.{Tells}
use Rattle.ck_cover.specs.Goals.{is_retired}
use Rattle.ck_cover.proofs.Channels.{at_place}
use Rattle.ck_cover.proofs.reached.row_goal.Goals as goal

pub retires_row-requires : goal.retires_row-requires
retires_row-requires c =
    at_place (AreChannelNodes c.args.net.now) c.args.port.now.channels c.args.index c.in-Some.channel.now
    (sym c.get.ensures.value ∙ ap option_copied c.in-Some.is) c.requires.channels

pub returns-in-Some-clause-tells : goal.returns-in-Some-clause-tells
returns-in-Some-clause-tells c =
    let P : Option Channel → Type 0 = λ o. IfOk c.retires_row.result
    (Tells c.args.net.now c.retires_row.new.net (λ g. is_retired c.args.net.now g o c.args.row)) in
    subst P (ap option_copied (sym c.in-Some.is) ∙ c.get.ensures.value) c.retires_row.ensures.tells

pub returns-in-None-clause-tells : goal.returns-in-None-clause-tells
returns-in-None-clause-tells c =
    let P : Option Channel → Type 0 = λ o. IfOk c.bit.result
    (Tells c.args.net.now c.bit.new.net (λ g. is_retired c.args.net.now g o c.args.row)) in
    subst P (ap option_copied (sym c.in-None.is) ∙ c.get.ensures.value) c.bit.ensures.shows
