use Rattle.std.proofs.Common.{◌∙◌, ap, sym, subst}
use Rattle.vl_elab_spec.specs.Meanings.{meanings_before}
use Rattle.vl_elab_spec.specs.Refused.{lowest}
use Rattle.vl_elab_scope.specs.Alike.{Alike}
use Rattle.vl_elab_params.proofs.Law.{laid_alike}
use Rattle.vl_elab_check_scope.proofs.Behind.{parameter_alike}
use Rattle.vl_elab_check_scope.proofs.parameters.judge_before.Goals as goal

pub returns-clause-before : goal.returns-clause-before
returns-clause-before c =
    c.in_ok-before.ensures.laid c.args.before.now c.args.names.now c.in_ok-count.ensures.names
    (sym c.in_ok-count.ensures.count)

pub returns-clause-names : goal.returns-clause-names
returns-clause-names c =
    c.in_ok-before.ensures.rest c.args.before.now c.args.names.now c.in_ok-count.ensures.names
    (sym c.in_ok-count.ensures.count)

pub returns-clause-fault : goal.returns-clause-fault
returns-clause-fault c at stand same said twice =
    c.in_ok-fault.ensures
    ∙ ap lowest (parameter_alike c.lay.new.self (meanings_before at stand)
    (subst (λ ns. Alike ns (meanings_before at stand)) (sym c.in_ok-count.ensures.names)
    (laid_alike at stand c.args.before.now c.args.names.now said same)) _ _ c.args.is_given c.args.parameter.now twice)
