use Rattle.std.proofs.Common.{◌+◌, ◌||◌, [], ◌∷◌, ◌++◌, pos, ap, ◌∙◌}
use Rattle.lrat_check.specs.Sets.{has}
use Rattle.sat_learn.proofs.Tracing.{begins}
use Rattle.sat_learn.proofs.Backs.{begun}
use Rattle.sat_learn.proofs.analysis.begin.Goals as goal

pub returns-clause-derives : goal.returns-clause-derives
returns-clause-derives c =
    let r = c.requires.conflict in
    begun c.args.clauses.now c.args.trail.now c.args.conflict r.clause c.at.result.now c.join.new.set
    c.push_id.new.hints.items
    (begins c.args.clauses.now c.args.trail.now c.args.conflict r.clause r.stand r.found r.false_there r.all_lits)
    r.found c.at.ensures
    (λ x. c.in_ok-late.ensures x ∙ ap (λ z. has z x || has c.at.result.now x) c.clear.ensures)
    (c.in_ok-push_id.ensures ∙ ap (λ z. z ++ pos (c.args.conflict + 1) ∷ []) c.new-hints.ensures.items)
