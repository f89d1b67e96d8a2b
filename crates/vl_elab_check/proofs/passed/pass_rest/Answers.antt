use Rattle.std.proofs.Common.{◌∙◌, ◌++◌, ap, sym, subst}
use Rattle.std.proofs.lemmas.Result.{on_ok_weaker}
use Rattle.std.proofs.lemmas.List.{append-nil}
use Rattle.vl_elab_params.specs.Reached.{IsReached}
use Rattle.vl_elab_check.proofs.ItemKinds.{within_names, other_names}
use Rattle.vl_elab_check.proofs.passed.pass_rest.Goals as goal

pub returns-then-has_steps_within : goal.returns-then-has_steps_within
returns-then-has_steps_within c =
    let none = within_names c.args.item.now (sym c.has_steps_within.ensures ∙ c.if-has_steps_within.true) in
    on_ok_weaker c.pass_item.result (λ h at before same reached.
    h at before same (subst (IsReached c.args.reached.now at) (ap (λ l. before ++ l) none ∙ append-nil before) reached))
    c.pass_item.ensures

pub returns : goal.returns
returns c at before same reached =
    subst (λ l. IsReached c.args.reached.now at (before ++ l))
    (other_names c.args.item.now (sym c.has_steps_within.ensures ∙ c.if-has_steps_within.false)) reached
