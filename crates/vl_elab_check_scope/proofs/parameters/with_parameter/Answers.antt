use Rattle.std.proofs.Common.{sym, subst, ◌∙◌, [], ◌∷◌}
use Rattle.vl_elab_spec.specs.Meanings.{meanings_at}
use Rattle.vl_elab_scope.specs.Alike.{Alike}
use Rattle.vl_elab_names.specs.Known.{contains}
use Rattle.vl_elab_decls.specs.declared.scopes.Inside.{Inside}
use Rattle.vl_elab_params.specs.Reached.{IsReached}
use Rattle.vl_elab_check_scope.proofs.NameLemmas.{same_names}
use Rattle.vl_elab_check_scope.proofs.parameters.with_parameter.Goals as goal

pub returns-clause-earlier : goal.returns-clause-earlier
returns-clause-earlier c before names text =
    c.in_ok-add_name.ensures text
    ∙ same_names (contains c.args.earlier.now) before names (c.args.parameter.now.name ∷ []) text

pub returns-clause-reached : goal.returns-clause-reached
returns-clause-reached c at before same reached =
    c.in_ok-pass.ensures at before
    (subst (λ (i : Inside). Alike i.names (meanings_at at)) (sym c.in_ok-fault.ensures.inside) same)
    (subst (λ r. IsReached r at before) (sym c.in_ok-fault.ensures.reached) reached)
