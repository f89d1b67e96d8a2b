use Rattle.bm_induct.proofs.Runs.{begun_says}
use Rattle.bm_induct.proofs.start.has_begun.Goals as goal

pub returns : goal.returns
returns c =
    begun_says c.args.net.now c.yes.new.net c.ever.new.net c.in_ok-one.one c.in_ok-past.past
    c.nodes-2.ensures.whole c.in_ok-one.ensures.adds c.in_ok-one.ensures.tells c.in_ok-past.ensures
