use Rattle.std.proofs.Common.{sym, subst}
use Rattle.vl_mean.specs.Walk.{overrides_of, use_of}
use Rattle.vl_elab_const.specs.Given.{IsGiven, value_given}
use Rattle.vl_elab_spec.specs.Items.{is_valued}
use Rattle.vl_elab_spec.specs.Meanings.{meanings_at}
use Rattle.vl_elab_check.proofs.scopes.enter_instance.Goals as goal

pub returns-clause-here : goal.returns-clause-here
returns-clause-here c at text path h formed e =
    let x = c.args.instance.now in
    c.in_ok-enter_used.ensures.here (use_of (is_valued at) at.scopes x) text at.modules path
    (c.in_ok-inputs.ensures c.args.inside.now.names (meanings_at at) at.scopes x (is_valued at) h.stands
    (sym c.as_slice.ensures))
    (subst (λ xs. IsGiven (value_given c.in_ok-given.given) (overrides_of (is_valued at) at.scopes xs))
    c.connections_of-overrides.ensures (c.in_ok-given.ensures (meanings_at at) at.scopes h.stands.alike
    h.stands.numbers)) formed e
