use Rattle.std.proofs.Common.{sym, subst, List}
use Rattle.std.proofs.lemmas.Result.{on_ok_weaker}
use Rattle.vl_elab_spec.specs.Meanings.{Names}
use Rattle.vl_elab_params.specs.Reached.{AreBefore}
use Rattle.vl_elab_params.proofs.Law.{handed_over}
use Rattle.vl_elab_params.proofs.Over.{entered_over}
use Rattle.vl_elab_params.proofs.reached.Reached.hand_over.Goals as goal

pub returns-clause-names : goal.returns-clause-names
returns-clause-names c =
    on_ok_weaker c.enter-2.result
    (λ e. entered_over c.args.self.now c.replace.result c.replace-2.result c.args.around.now c.enter.new.self
    c.enter-2.new.self c.replace.ensures.value c.replace-2.ensures.value c.in_ok-enter.ensures.ok e)
    c.enter-2.ensures.ok

pub returns-clause-before : goal.returns-clause-before
returns-clause-before c =
    let old = c.args.self.now in
    on_ok_weaker c.enter-2.result
    (λ e at earlier named r a. let P : List Names → Type 0 = λ ns. AreBefore ns at earlier in
    subst P (sym (entered_over old c.replace.result c.replace-2.result c.args.around.now c.enter.new.self
    c.enter-2.new.self c.replace.ensures.value c.replace-2.ensures.value c.in_ok-enter.ensures.ok e))
    (handed_over old.passed old.pending c.args.around.now earlier at r named a))
    c.enter-2.ensures.ok
