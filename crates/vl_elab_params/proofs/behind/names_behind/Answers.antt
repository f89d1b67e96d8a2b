use Rattle.std.proofs.Common.{◌≡◌, ◌∙◌, ap, sym, subst, List, ℕ}
use Rattle.std.proofs.lemmas.Result.{IfOk-weaker}
use Rattle.vl_mean.specs.Declarations.{Overrides}
use Rattle.vl_elab_spec.specs.Meanings.{all_later, meaning_of}
use Rattle.vl_elab_scope.specs.Seen.{AreNamed}
use Rattle.vl_elab_params.specs.Among.{contents}
use Rattle.vl_elab_params.specs.Entered.{names_behind}
use Rattle.vl_elab_params.proofs.LaterNames.{behind_meaning, behind_named}
use Rattle.vl_elab_params.proofs.behind.names_behind.Goals as goal

pub returns-clause-meaning : goal.returns-clause-meaning
returns-clause-meaning c =
    let parameters = c.args.parameters.now in
    let ports = c.args.ports.now in
    let all = c.args.all.now in
    IfOk-weaker c.all_behind.result (λ level. level ≡ names_behind parameters ports all)
    (λ level. (os : Overrides) (text : List ℕ) → meaning_of level text
    ≡ meaning_of (all_later (contents os parameters ports all)) text)
    (λ level e os text. ap (λ ns. meaning_of ns text) e ∙ behind_meaning os parameters ports all text)
    c.all_behind.ensures

pub returns-clause-named : goal.returns-clause-named
returns-clause-named c =
    let parameters = c.args.parameters.now in
    let ports = c.args.ports.now in
    let all = c.args.all.now in
    IfOk-weaker c.all_behind.result (λ level. level ≡ names_behind parameters ports all) (λ level. AreNamed level)
    (λ level e. subst AreNamed (sym e) (behind_named parameters ports all)) c.all_behind.ensures
