use Rattle.base_tests.proofs.walks.walked.Goals as goal

pub walk-requires-clause-within : goal.walk-requires-clause-within
walk-requires-clause-within c = c.is_within-within.ensures.0 c.if-within.true
