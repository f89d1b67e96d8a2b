use Rattle.std.proofs.Common.{◌∙◌}
use Rattle.sat_learn.proofs.Backs.{none_left}
use Rattle.sat_learn.proofs.analysis.to_empty.Goals as goal

pub returns-clause-empty : goal.returns-clause-empty
returns-clause-empty c =
    c.in_ok-lits.ensures.items ∙ c.as_slice.ensures.same
    ∙ none_left c.loop-entry.set c.loop-entry.trail c.in_default.ensures.0 c.loop-entry.invariant.0.all_false
