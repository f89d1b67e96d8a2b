use Rattle.std.proofs.Common.{◌≡◌, true, sym, ◌∙◌, subst, length, ◌<◌}
use Rattle.std.proofs.lemmas.Bool.{true≢false}
use Rattle.lrat_check.specs.Sets.{reading}
use Rattle.sat_trail.specs.Trail.{Entries, lits, below, Stand}
use Rattle.sat_trail.specs.Clauses.{Within}
use Rattle.sat_propagate.specs.Laws.{IsOlder}
use Rattle.sat_learn.proofs.Cuts.{older_below, older_on}
use Rattle.sat_learn.specs.Analysis.{FalseLast, is_unit}
use Rattle.sat_learn.proofs.Levels.{below_within}
use Rattle.sat_learn.proofs.Jumps.{stand_below, below_shorter, joins}
use Rattle.sat_learn.proofs.Lasts.{last_below}
use Rattle.sat_learn.proofs.learning.backjump.Goals as goal

pub loop-trail-init : goal.loop-trail-init
loop-trail-init c =
    let t = c.args.trail.now in
    let e = sym c.drop_level.ensures in
    let U : Entries → Type 0 = λ z. is_unit (reading (lits z) c.args.lits.now) ≡ true in
    let W : Entries → Type 0 = λ z. Within (lits z) (lits t) in
    record {
      stand = subst (Stand c.args.clauses.now) e (stand_below c.args.clauses.now t c.requires.stand);
      unit = subst U e c.requires.unit;
      part = subst W e (below_within t);
      older = subst (IsOlder t) e (older_below t c.requires.decided);
      last = c.false_last-last.ensures.last;
    }

pub loop-trail-smaller : goal.loop-trail-smaller
loop-trail-smaller c =
    let P : Entries → Type 0 = λ t. length t < length c.loop-trail.trail in
    subst P (sym c.drop_level-in-loop-trail.ensures)
    (below_shorter c.loop-trail.trail (sym c.has_decision.ensures ∙ c.loop-trail-test.true))

pub loop-trail-preserved : goal.loop-trail-preserved
loop-trail-preserved c =
    let t = c.loop-trail.trail in
    let i = c.loop-trail.invariant in
    let e = sym c.drop_level-in-loop-trail.ensures in
    let one : is_unit (reading (lits (below t)) c.args.lits.now) ≡ true =
    sym (c.stays_unit.ensures c.args.lits.now i.unit i.last) ∙ c.if-stays_unit.true in
    let U : Entries → Type 0 = λ z. is_unit (reading (lits z) c.args.lits.now) ≡ true in
    let W : Entries → Type 0 = λ z. Within (lits z) (lits c.args.trail.now) in
    let F : Entries → Type 0 = λ z. FalseLast z c.args.lits.now c.false_last-last.result in
    record {
      stand = subst (Stand c.args.clauses.now) e (stand_below c.args.clauses.now t i.stand);
      unit = subst U e one;
      part = subst W e (λ x h. i.part x (below_within t x h));
      older = subst (IsOlder c.args.trail.now) e (older_on c.args.trail.now t (below t) i.older
          (older_below t (sym c.has_decision.ensures ∙ c.loop-trail-test.true)));
      last = subst F e (last_below t c.args.lits.now i.unit one c.false_last-last.result i.last);
    }

pub returns-else-stays_unit-clause-stand : goal.returns-else-stays_unit-clause-stand
returns-else-stays_unit-clause-stand c =
    let i = c.loop-trail.invariant in
    joins c.args.clauses.now c.args.lits.now c.loop-trail.trail i.stand i.unit
    (λ d. sym (c.stays_unit.ensures c.args.lits.now i.unit i.last) ∙ c.if-stays_unit.false)

pub returns-after-loop-trail-clause-stand : goal.returns-after-loop-trail-clause-stand
returns-after-loop-trail-clause-stand c =
    joins c.args.clauses.now c.args.lits.now c.loop-trail.trail c.loop-trail.invariant.stand
    c.loop-trail.invariant.unit
    (λ d. absurd (true≢false (sym d ∙ sym c.has_decision.ensures ∙ c.loop-trail-test.false)))
