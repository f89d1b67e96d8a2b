use Rattle.std.proofs.Common.{sym, ◌∙◌}
use Rattle.wn_net.proofs.Laws.{names_on}
use Rattle.rvf_judge.proofs.HalvesTold.{induct_answer, induct_skipped, of_each, room_left}
use Rattle.rvf_judge.proofs.inducting.induct.Goals as goal

pub returns-then-not-is_of_one_cycle : goal.returns-then-not-is_of_one_cycle
returns-then-not-is_of_one_cycle g c = λ ps channels wants loaded own.
    induct_skipped c.args.check.now (sym c.is_of_one_cycle.ensures ∙ c.if-not-is_of_one_cycle.true)
    (g.S.Search.more c.args.search.now) ps channels wants c.args.opts c.args.k c.args.budget

pub inducted-requires-clause-names : goal.inducted-requires-clause-names
inducted-requires-clause-names g c κs lives =
    let check = c.args.check.now in
    let one = sym c.is_of_one_cycle.ensures ∙ c.if-not-is_of_one_cycle.false in
    let adds = of_each check one c.args.net.now c.in_ok-watched.watched c.monitor.new.net c.in_ok-watched.ensures
    c.args.port.now c.args.opts c.in_ok-bad.bad c.in_ok-bad.ensures.each in
    names_on c.args.net.now c.monitor.new.net c.args.names.now adds.0 c.requires.names

pub inducted-requires-clause-within : goal.inducted-requires-clause-within
inducted-requires-clause-within g c κs lives =
    let check = c.args.check.now in
    let one = sym c.is_of_one_cycle.ensures ∙ c.if-not-is_of_one_cycle.false in
    let adds = of_each check one c.args.net.now c.in_ok-watched.watched c.monitor.new.net c.in_ok-watched.ensures
    c.args.port.now c.args.opts c.in_ok-bad.bad c.in_ok-bad.ensures.each in
    room_left c.args.net.now c.monitor.new.net adds.0 c.requires.inputs c.requires.state

pub returns : goal.returns
returns g c =
    let check = c.args.check.now in
    let one = sym c.is_of_one_cycle.ensures ∙ c.if-not-is_of_one_cycle.false in
    induct_answer check one c.args.net.now c.in_ok-watched.watched c.monitor.new.net c.in_ok-watched.ensures
    c.args.port.now c.args.opts c.in_ok-bad.bad c.in_ok-bad.ensures.each (g.S.Search.more c.args.search.now)
    c.args.names.now c.args.k c.args.budget c.inducted.result c.nodes.ensures.whole c.nodes-2.ensures.whole
    c.in_ok-bad.ensures.there c.inducted.ensures
