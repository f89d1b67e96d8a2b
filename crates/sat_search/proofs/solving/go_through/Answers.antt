use Rattle.std.proofs.Common.{◌≡◌, ◌<◌, ◌^◌, ◌∙◌, List, length, ap, sym, subst}
use Rattle.cnf_form.specs.Cnf.{formula_true, value_of}
use Rattle.lrat_check.specs.declared.step.Step.{Step}
use Rattle.sat_trail.specs.Trail.{lits}
use Rattle.sat_search.specs.declared.turn.Turn.TheVariants as turn
use Rattle.sat_search.specs.Turns.{IsRefuted, IsSpent}
use Rattle.sat_search.proofs.Comes.{comes}
use Rattle.sat_search.proofs.Models.{length_values}
use Rattle.sat_search.proofs.solving.go_through.Goals as goal

pub turn-requires : goal.turn-requires
turn-requires c = (c.args.budget, c.args.formula.now.clauses, c.turns.invariant.0)

pub turns-smaller : goal.turns-smaller
turns-smaller c =
    let came = comes c.args.budget c.args.formula.now.clauses c.turns.search c.turn.new.self c.in_ok-turn.turn turn.On
    c.in_ok-turn.ensures c.in-On.is c.turns.invariant.0 in
    came.1

pub turns-preserved : goal.turns-preserved
turns-preserved c =
    let came = comes c.args.budget c.args.formula.now.clauses c.turns.search c.turn.new.self c.in_ok-turn.turn turn.On
    c.in_ok-turn.ensures c.in-On.is c.turns.invariant.0 in
    (came.0, c.in_ok-turn.ensures.0 ∙ c.turns.invariant.1)

pub values-requires : goal.values-requires
values-requires c = subst (λ n. n < 2 ^ 63) (sym c.in_ok-turn.ensures.0) c.turns.invariant.0.searching.told.small

pub returns-in-Satisfied : goal.returns-in-Satisfied
returns-in-Satisfied c =
    let came = comes c.args.budget c.args.formula.now.clauses c.turns.search c.turn.new.self c.in_ok-turn.turn
    turn.Satisfied
    c.in_ok-turn.ensures c.in-Satisfied.is c.turns.invariant.0 in (
      ap length c.in_ok-values-in-Satisfied.ensures ∙ length_values c.turn.new.self.vars (lits c.turn.new.self.trail)
          ∙ c.in_ok-turn.ensures.0 ∙ c.turns.invariant.1,
      ap (λ z. formula_true (value_of z) c.args.formula.now.clauses) c.in_ok-values-in-Satisfied.ensures ∙ came,
    )

pub returns-in-Refuted : goal.returns-in-Refuted
returns-in-Refuted c =
    let came = comes c.args.budget c.args.formula.now.clauses c.turns.search c.turn.new.self c.in_ok-turn.turn
    turn.Refuted
    c.in_ok-turn.ensures c.in-Refuted.is c.turns.invariant.0 in
    subst (IsRefuted c.args.budget c.args.formula.now.clauses c.args.formula.now.vars) (sym c.into_steps.ensures)
    (subst (λ n. IsRefuted c.args.budget c.args.formula.now.clauses n c.turn.new.self.ledger.steps)
    (c.in_ok-turn.ensures.0 ∙ c.turns.invariant.1) came)

pub returns-in-Spent : goal.returns-in-Spent
returns-in-Spent c =
    let came = comes c.args.budget c.args.formula.now.clauses c.turns.search c.turn.new.self c.in_ok-turn.turn
    turn.Spent
    c.in_ok-turn.ensures c.in-Spent.is c.turns.invariant.0 in
    subst (IsSpent c.args.budget c.args.formula.now.clauses c.args.formula.now.vars) (sym c.into_steps-in-Spent.ensures)
    (subst (λ n. IsSpent c.args.budget c.args.formula.now.clauses n c.turn.new.self.ledger.steps)
    (c.in_ok-turn.ensures.0 ∙ c.turns.invariant.1) came)
