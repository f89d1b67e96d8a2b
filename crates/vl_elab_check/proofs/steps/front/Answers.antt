use Rattle.std.specs.Prelude.{[], ◌∷◌}
use Rattle.std.proofs.Common.{subst, sym, ◌∙◌}
use Rattle.vl_mean.specs.Walk.{connections_of, connection_steps, module_scope, override_steps}
use Rattle.vl_elab_spec.specs.Walked.{AreWalked}
use Rattle.vl_elab_spec.proofs.Behind.{goes_on, stops}
use Rattle.vl_elab_check.proofs.steps.front.Goals as goal

pub returns-then-is_some-clause-walked : goal.returns-then-is_some-clause-walked
returns-then-is_some-clause-walked c ms t at u text modules totals h inner =
    let m = c.args.module.now in
    let x = c.args.instance.now in
    stops ms t c.walk_overrides.new.walk.totals (override_steps at m u [] (connections_of x.overrides))
    (connection_steps at m u (module_scope m u text ∷ []) [] x.connections) c.in_ok-fault.fault
    (sym c.is_some.ensures ∙ c.if-is_some.true)
    (subst (λ xs. AreWalked ms t c.walk_overrides.new.walk.totals (override_steps at m u [] xs) c.in_ok-fault.fault)
    c.connections_of.ensures (c.in_ok-fault.ensures.walked ms at u t h.stands.alike inner totals))

pub returns-clause-walked : goal.returns-clause-walked
returns-clause-walked c ms t at u text modules totals h inner =
    let m = c.args.module.now in
    let x = c.args.instance.now in
    goes_on ms t c.walk_overrides.new.walk.totals c.walk_connections.new.walk.totals
    (override_steps at m u [] (connections_of x.overrides))
    (connection_steps at m u (module_scope m u text ∷ []) [] x.connections) c.in_ok-fault.fault
    c.in_ok-walk_connections.field-0 (sym c.is_some.ensures ∙ c.if-is_some.false)
    (subst (λ xs. AreWalked ms t c.walk_overrides.new.walk.totals (override_steps at m u [] xs) c.in_ok-fault.fault)
    c.connections_of.ensures (c.in_ok-fault.ensures.walked ms at u t h.stands.alike inner totals))
    (λ b k. subst (λ xs. AreWalked ms b c.walk_connections.new.walk.totals
    (connection_steps at m u (module_scope m u text ∷ []) [] xs) c.in_ok-walk_connections.field-0)
    c.as_slice.ensures (c.in_ok-walk_connections.ensures.walked ms at u (module_scope m u text ∷ []) b h.stands inner k))

pub returns-clause-path : goal.returns-clause-path
returns-clause-path c = c.in_ok-walk_connections.ensures.path ∙ c.in_ok-fault.ensures.path
