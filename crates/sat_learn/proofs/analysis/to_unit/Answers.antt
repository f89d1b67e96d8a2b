use Rattle.std.proofs.Common.{reverse}
use Rattle.sat_learn.proofs.Shortens.{traced}
use Rattle.sat_learn.proofs.analysis.to_unit.Goals as goal

pub shorten-requires-clause-resolves : goal.shorten-requires-clause-resolves
shorten-requires-clause-resolves c =
    traced c.args.clauses.now c.trace.new.trail c.trace.new.set (reverse c.in_ok-hints.field-0.hints.items)
    c.in_ok-hints.ensures.derives
