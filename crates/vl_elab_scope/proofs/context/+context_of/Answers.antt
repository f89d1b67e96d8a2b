use Rattle.std.proofs.Common.{◌≡◌, ◌∙◌, ap, sym, rules}
use Rattle.vl_tree.specs.Expr.{conditional}
use Rattle.vl_tree.specs.ExprView.{shown}
use Rattle.vl_size.specs.Divisors.{own_context}
use Rattle.vl_elab_spec.specs.Expressions.{known}
use Rattle.vl_elab_spec.specs.Meanings.{objects}
use Rattle.vl_elab_scope.proofs.Contexts.{choice_is}
use Rattle.vl_elab_scope.proofs.context.+context_of.Goals as goal

pub returns-in_ok-second-in-Conditional-clause-value : goal.returns-in_ok-second-in-Conditional-clause-value
returns-in_ok-second-in-Conditional-clause-value t c =
    let ns = c.args.names.now in
    let pos = c.expr.inside.pos in
    let k = c.deref-in-Conditional.result.now in
    let x = c.deref-in-Conditional-2.result.now in
    let y = c.deref-in-Conditional-3.result.now in
    let condition : c.deref-in-Conditional.result.now ≡ c.in-Conditional.condition.value = search rules in
    let first : c.deref-in-Conditional-2.result.now ≡ c.in-Conditional.first.value = search rules in
    let second : c.deref-in-Conditional-3.result.now ≡ c.in-Conditional.second.value = search rules in
    let whole : conditional pos k x y ≡ c.args.expr.now =
    (λ i. conditional pos (condition i) (first i) (second i)) ∙ ap (shown pos) (sym c.in-Conditional.is)
    ∙ c.expr.view_is in
    c.choice_context.ensures.value
    ∙ choice_is (objects ns) pos (known ns k) (known ns x) (known ns y) c.in_ok-condition-in-Conditional.condition
    c.in_ok-first-in-Conditional.first c.in_ok-second-in-Conditional.second
    c.in_ok-condition-in-Conditional.ensures.value c.in_ok-first-in-Conditional.ensures.value
    c.in_ok-second-in-Conditional.ensures.value
    ∙ ap (λ e. own_context (objects ns) (known ns e)) whole
