use Rattle.bm_induct.proofs.Runs.{met_says}
use Rattle.bm_induct.proofs.start.are_met.Goals as goal

pub returns : goal.returns
returns c =
    met_says c.args.net.now c.are_other.new.net c.always.new.net c.args.ids.now c.in_ok-now.now c.in_ok-past.past
    c.nodes-2.ensures.whole c.in_ok-now.ensures.adds c.in_ok-now.ensures.tells c.requires.ids c.in_ok-past.ensures
