use Rattle.sat_cubes.proofs.Ends.{refuted_more, spent_more}
use Rattle.sat_cubes.proofs.outcome.outcome_of.Goals as goal

pub loop-part-preserved-in-Continue-1 : goal.loop-part-preserved-in-Continue-1
loop-part-preserved-in-Continue-1 c =
    refuted_more c.loop-part.is_spent c.loop-part.refutations.items c.push.new.self.items c.in-Refuted.refutation
    c.loop-part.yielded c.in-Some.part c.in-Refuted.is c.in_ok-push-in-Refuted.ensures.items c.loop-part.invariant

pub loop-part-preserved : goal.loop-part-preserved
loop-part-preserved c = spent_more c.loop-part.yielded c.in-Some.part c.in-Spent.is
