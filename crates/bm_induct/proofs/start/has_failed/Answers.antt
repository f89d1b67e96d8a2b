use Rattle.bm_induct.proofs.Runs.{failed_says}
use Rattle.bm_induct.proofs.start.has_failed.Goals as goal

pub returns : goal.returns
returns c =
    failed_says c.args.net.now c.are_met.new.net c.has_begun.new.net c.and_fails.new.net c.ever.new.net
    c.args.assumes.now c.args.bad c.in_ok-met.met c.in_ok-begun.begun c.in_ok-fails.fails c.in_ok-found.found
    c.nodes-2.ensures.whole c.nodes-3.ensures.whole c.nodes-4.ensures.whole c.requires.assumes c.requires.bad
    c.in_ok-met.ensures c.in_ok-begun.ensures c.in_ok-fails.ensures.adds c.in_ok-fails.ensures.tells
    c.in_ok-found.ensures
