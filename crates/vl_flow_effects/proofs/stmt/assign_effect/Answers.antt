use Rattle.std.proofs.Common.{sym, ◌∙◌, subst}
use Rattle.vl_tree.specs.Stmt.{assign}
use Rattle.fv_bit_sets.specs.Cells.{has}
use Rattle.vl_flow_effects.specs.declared.effect.Effect.{Effect}
use Rattle.vl_flow_effects.specs.Effects.{IsEffectOf}
use Rattle.vl_flow_effects.proofs.Tests.{or_same}
use Rattle.vl_flow_effects.proofs.stmt.assign_effect.Goals as goal

pub returns-in_ok-sure-in-Blocking : goal.returns-in_ok-sure-in-Blocking
returns-in_ok-sure-in-Blocking c a p one other =
    let surely = c.in_ok-surely.surely in
    let made : Effect = record {
      needs = c.in_ok-needs.needs;
      sure = c.in_ok-sure-in-Blocking.sure;
      surely = surely;
      blocking = c.in_ok-changes.changes;
      nonblocking = c.none.result;
    } in
    subst (λ k. IsEffectOf c.args.decls.now made (assign a p c.args.target.now k c.args.expr.now))
    (sym c.in-Blocking.is)
    (record {
      needs = c.in_ok-needs.ensures one other;
      sure = λ x n i at. c.in_ok-sure-in-Blocking.ensures x i ∙ or_same (has surely x i)
          ∙ c.in_ok-surely.ensures one x n i at;
      surely = c.in_ok-surely.ensures one;
      blocking = c.in_ok-changes.ensures one;
      nonblocking = λ x n i at. c.none.ensures x i;
    })

pub returns-in-Nonblocking : goal.returns-in-Nonblocking
returns-in-Nonblocking c a p one other =
    let made : Effect = record {
      needs = c.in_ok-needs.needs;
      sure = c.none-in-Nonblocking.result;
      surely = c.in_ok-surely.surely;
      blocking = c.none-in-Nonblocking-2.result;
      nonblocking = c.in_ok-changes.changes;
    } in
    subst (λ k. IsEffectOf c.args.decls.now made (assign a p c.args.target.now k c.args.expr.now))
    (sym c.in-Nonblocking.is)
    (record {
      needs = c.in_ok-needs.ensures one other;
      sure = λ x n i at. c.none-in-Nonblocking.ensures x i;
      surely = c.in_ok-surely.ensures one;
      blocking = λ x n i at. c.none-in-Nonblocking-2.ensures x i;
      nonblocking = c.in_ok-changes.ensures one;
    })
