use Rattle.std.proofs.Common.{sym, ◌∙◌, subst, length, ◌<◌}
use Rattle.sat_trail.specs.Trail.{Entries, lits, below, Stand}
use Rattle.sat_trail.specs.Clauses.{Within}
use Rattle.sat_propagate.specs.Laws.{IsOlder}
use Rattle.sat_learn.proofs.Cuts.{older_below, older_on}
use Rattle.sat_learn.proofs.Levels.{below_within}
use Rattle.sat_learn.proofs.Jumps.{stand_below, below_shorter}
use Rattle.sat_learn.proofs.learning.begin_anew.Goals as goal

pub loop-trail-init : goal.loop-trail-init
loop-trail-init c =
    let t = c.args.trail.now in
    let e = sym c.drop_level.ensures in
    let W : Entries → Type 0 = λ z. Within (lits z) (lits t) in
    record {
      stand = λ clauses s. subst (Stand clauses) e (stand_below clauses t s);
      part = subst W e (below_within t);
      older = subst (IsOlder t) e (older_below t c.requires);
    }

pub loop-trail-smaller : goal.loop-trail-smaller
loop-trail-smaller c =
    let P : Entries → Type 0 = λ t. length t < length c.loop-trail.trail in
    subst P (sym c.drop_level-in-loop-trail.ensures)
    (below_shorter c.loop-trail.trail (sym c.has_decision.ensures ∙ c.loop-trail-test.true))

pub loop-trail-preserved : goal.loop-trail-preserved
loop-trail-preserved c =
    let t = c.loop-trail.trail in
    let i = c.loop-trail.invariant in
    let e = sym c.drop_level-in-loop-trail.ensures in
    let W : Entries → Type 0 = λ z. Within (lits z) (lits c.args.trail.now) in
    record {
      stand = λ clauses s. subst (Stand clauses) e (stand_below clauses t (i.stand clauses s));
      part = subst W e (λ x h. i.part x (below_within t x h));
      older = subst (IsOlder c.args.trail.now) e (older_on c.args.trail.now t (below t) i.older
          (older_below t (sym c.has_decision.ensures ∙ c.loop-trail-test.true)));
    }
