use Rattle.std.proofs.Common.{ap, arith, refl, sym, subst}
use Rattle.lrat_check.specs.Store.{held_of, literals, AreHeld}
use Rattle.lrat_check.proofs.Stores.{store_step, held_none, held_all, lits_are, numbered_held}
use Rattle.lrat_check.proofs.held.store_of.Goals as goal

pub loop-index-init : goal.loop-index-init
loop-index-init c = (
  omega arith,
  held_none (held_of c.new-held.result)
      (λ id. ap literals (c.new-held.ensures.held id)),
  omega (arith, c.new-held.ensures.next),
)

pub put-requires-clause-lits : goal.put-requires-clause-lits
put-requires-clause-lits c =
    lits_are c.args.formula.now.vars c.clause_at.result.now
    (omega (arith, c.vars-vars.ensures.value, c.vars-vars.ensures.small)) c.clause_at.ensures.literals

pub loop-index-preserved : goal.loop-index-preserved
loop-index-preserved c = (
  omega (arith, c.loop-index.invariant.0),
  store_step (held_of c.loop-index.held)
      (held_of c.put.new.held) c.args.formula.now.clauses c.loop-index.index c.loop-index.id
      c.clause_at.result.now c.clause_at.result.now
      c.loop-index.invariant.1 c.in_ok-put.ensures.ok c.loop-index.invariant.0
      (omega (arith, c.loop-index-test.true, c.len-index-end.ensures.value))
      c.clause_at.ensures.value refl,
  omega (arith, c.in_ok-put.ensures.next),
)

pub returns-clause-held : goal.returns-clause-held
returns-clause-held c =
    held_all c.args.formula.now.clauses c.args.formula.now.clauses c.loop-index.index 0
    (held_of c.loop-index.held) c.loop-index.invariant.1
    (omega (arith, c.loop-index-test.false, c.len-index-end.ensures.value)) refl

pub returns-clause-lits : goal.returns-clause-lits
returns-clause-lits c =
    subst AreHeld (sym (held_all c.args.formula.now.clauses c.args.formula.now.clauses c.loop-index.index 0
    (held_of c.loop-index.held) c.loop-index.invariant.1
    (omega (arith, c.loop-index-test.false, c.len-index-end.ensures.value)) refl))
    (numbered_held c.args.formula.now.vars c.args.formula.now.clauses
    (omega (arith, c.vars-vars.ensures.value, c.vars-vars.ensures.small))
    c.len-index-end.ensures.literals)
