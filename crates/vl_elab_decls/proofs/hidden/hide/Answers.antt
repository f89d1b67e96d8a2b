use Rattle.std.proofs.Common.{ap, ◌∙◌}
use Rattle.std.proofs.lemmas.Result.{on_ok_weaker}
use Rattle.std.specs.Prelude.{[]}
use Rattle.vl_tree.specs.Item.{items}
use Rattle.vl_elab_scope.specs.Seen.{innermost}
use Rattle.vl_elab_decls.specs.Hidden.{with_hidden_items}
use Rattle.vl_elab_decls.proofs.Stacks.{hidden_is}
use Rattle.vl_elab_decls.proofs.hidden.hide.Goals as goal

pub returns : goal.returns
returns c =
    on_ok_weaker c.enter-2.result (λ e. hidden_is c.args.numbers.now c.take-values.new.self c.enter.new.self
    c.enter-2.new.self c.take-values.result c.in_ok-hidden.hidden
    (with_hidden_items (innermost c.args.numbers.now) [] (items c.args.all.now))
    c.take-values.ensures.level c.take-values.ensures.rest c.in_ok-enter.ensures.ok e
    (c.in_ok-hidden.ensures ∙ ap (λ v. with_hidden_items v [] (items c.args.all.now)) c.take-values.ensures.level))
    c.enter-2.ensures.ok
