use Rattle.std.proofs.Common.{◌∙◌, ◌++◌, ap, sym, subst}
use Rattle.std.proofs.lemmas.Result.{on_ok_weaker}
use Rattle.std.proofs.lemmas.List.{append-nil}
use Rattle.vl_elab_params.specs.Reached.{IsReached}
use Rattle.vl_elab_check.proofs.ItemKinds.{objects_own, no_objects_own}
use Rattle.vl_elab_check.proofs.passed.pass_declared.Goals as goal

pub returns-then-is_of_objects : goal.returns-then-is_of_objects
returns-then-is_of_objects c =
    let own = objects_own c.args.item.now (sym c.is_of_objects.ensures ∙ c.if-is_of_objects.true) in
    on_ok_weaker c.pass_item.result (λ h at before same reached.
    subst (λ l. IsReached c.pass_item.new.self at (before ++ l)) (sym own) (h at before same reached))
    c.pass_item.ensures

pub returns : goal.returns
returns c at before same reached =
    let none = no_objects_own c.args.item.now (sym c.is_of_objects.ensures ∙ c.if-is_of_objects.false) in
    subst (IsReached c.args.reached.now at) (sym (append-nil before) ∙ ap (λ l. before ++ l) (sym none)) reached
