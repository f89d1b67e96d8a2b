use Rattle.std.proofs.Common.{List, ℤ, ◌∷◌, [], ◌++◌, reverse, sym, subst}
use Rattle.lrat_check.specs.Sets.{AreLits}
use Rattle.sat_trail.specs.Trail.{Stand}
use Rattle.sat_learn.proofs.Cuts.{older_through}
use Rattle.sat_learn.proofs.Joins.{learns_on}
use Rattle.sat_learn.proofs.learning.learn.Goals as goal

pub may_begin_anew-requires : goal.may_begin_anew-requires
may_begin_anew-requires c = subst AreLits (sym c.deref.ensures.value) c.in_ok-learnt.ensures.resolves.all_lits

pub returns : goal.returns
returns c =
    let S : List ℤ → Type 0 = λ z. Stand (c.args.clauses.now ++ z ∷ []) c.cut.new.trail in
    learns_on c.args.clauses.now c.args.trail.now c.to_unit.new.trail c.cut.new.trail
    c.in_ok-learnt.learnt.lits.items (reverse c.in_ok-learnt.learnt.hints.items)
    c.in_ok-learnt.ensures.resolves
    c.in_ok-learnt.ensures.level
    c.in_ok-learnt.ensures.unit
    c.in_ok-learnt.ensures.part
    c.cut.ensures.part
    (older_through c.args.trail.now c.to_unit.new.trail c.cut.new.trail c.requires.decided
    c.in_ok-learnt.ensures.level.older_is c.cut.ensures.older)
    (subst S c.deref-2.ensures.value c.cut.ensures.stand)
