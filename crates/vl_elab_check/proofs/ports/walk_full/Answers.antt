use Rattle.std.proofs.Common.{refl, ◌∷◌, ◌++◌, [], subst}
use Rattle.vl_mean.specs.Walk.{port}
use Rattle.vl_elab_names.specs.Known.{AreNames, contains}
use Rattle.vl_elab_params.specs.Reached.{IsReached}
use Rattle.vl_elab_spec.specs.Walked.{AreWalked}
use Rattle.vl_elab_check_scope.proofs.NameLemmas.{same_names}
use Rattle.vl_elab_check_scope.specs.Short.{renamed}
use Rattle.vl_elab_check.specs.Ports.{port_value}
use Rattle.std.proofs.Common.{◌∙◌}
use Rattle.vl_elab_check.proofs.ports.walk_full.Goals as goal

pub returns-clause-walked : goal.returns-clause-walked
returns-clause-walked c ms at u t same names known =
    let new = c.weighed.new.totals in
    let p = c.args.written.now in
    let q = c.args.full.now in
    let text = c.port_text-text.result.now in
    let x = port at u p (renamed q text c.port_value-value.result.now) in
    subst (λ xs. AreWalked ms t new (port at u p (renamed q xs (port_value p.kind)) ∷ []) c.weighed.result)
    c.port_text-text.ensures
    (subst (λ v. AreWalked ms t new (port at u p (renamed q text v) ∷ []) c.weighed.result) c.port_value-value.ensures
    (c.weighed.ensures ms x t (c.in_ok-fault.ensures at same names) c.port_nodes.ensures refl
    (c.port_place-place.ensures x t refl (λ n. refl) refl c.port_nodes.ensures refl known) known))

pub returns-clause-earlier : goal.returns-clause-earlier
returns-clause-earlier c before names =
    subst (λ text. AreNames c.add_name.new.earlier (before ++ text ∷ [])) c.port_text-text.ensures
    (λ other. c.in_ok-add_name.ensures other
    ∙ same_names (contains c.args.earlier.now) before names (c.port_text-text.result.now ∷ []) other)

pub returns-clause-reached : goal.returns-clause-reached
returns-clause-reached c at before same h =
    subst (λ text. IsReached c.pass.new.self at (before ++ text ∷ [])) c.port_text-text.ensures
    (c.in_ok-pass.ensures at before same h)
