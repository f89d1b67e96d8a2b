use Rattle.bm_induct.proofs.Runs.{now_says}
use Rattle.bm_induct.proofs.anywhere.fails_now.Goals as goal

pub returns : goal.returns
returns c =
    now_says c.args.net.now c.is_other.new.net c.turned.new.net c.always.new.net c.both.new.net
    c.args.bad c.in_ok-fails.fails c.in_ok-holds.holds c.in_ok-id.id c.in_ok-past.past
    c.nodes-2.ensures.whole c.nodes-3.ensures.whole c.nodes-4.ensures.whole c.nodes-5.ensures.whole c.requires.bad
    c.in_ok-fails.ensures.adds c.in_ok-fails.ensures.tells c.in_ok-holds.ensures.adds c.in_ok-holds.ensures.tells
    c.in_ok-past.ensures c.in_ok-id.ensures.adds c.in_ok-id.ensures.tells
