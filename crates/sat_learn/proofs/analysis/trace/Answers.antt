use Rattle.std.proofs.Common.{length, ap, sym, ◌∙◌}
use Rattle.sat_learn.proofs.analysis.trace.Goals as goal

pub returns-clause-start : goal.returns-clause-start
returns-clause-start c = c.walk.invariant.start ∙ ap length (sym c.walk.invariant.level.older_is)
