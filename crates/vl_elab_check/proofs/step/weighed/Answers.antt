use Rattle.std.proofs.Common.{◌∙◌, ap, sym}
use Rattle.std.specs.Prelude.{◌≡◌, None, true, if◌then◌else◌}
use Rattle.vl_elab_spec.specs.declared.elab_fault.ElabFault.TheVariants as f
use Rattle.vl_elab_spec.specs.Counts.{step_names, step_nodes, step_pos}
use Rattle.vl_elab_spec.specs.Expressions.{refused_if}
use Rattle.vl_elab_spec.specs.Items.{step_refusals}
use Rattle.vl_elab_spec.specs.Refused.{counted, is_too_large, large_pos, lowest}
use Rattle.vl_elab_check_expr.proofs.Lowest.{lowest_two}
use Rattle.vl_elab_spec.proofs.Passed.{one_walked}
use Rattle.vl_elab_check.proofs.Rest.{lower_alone}
use Rattle.vl_elab_check.proofs.step.weighed.Goals as goal

pub returns-then-is_too_large : goal.returns-then-is_too_large
returns-then-is_too_large c ms x t fault nodes names pos known =
    let sum = c.with-sum.ensures t (step_nodes x) (step_names x) known nodes names in
    let large : true ≡ is_too_large (counted t x) =
    sym c.if-is_too_large.true ∙ c.is_too_large.ensures (counted t x) sum in
    one_walked ms t c.with-sum.result x c.first_of.result
    (c.first_of.ensures
    ∙ lowest_two (step_refusals ms x) (refused_if (is_too_large (counted t x)) (f.TooLarge (large_pos t x))) _ _ fault
    (ap (λ p. lowest (refused_if true (f.TooLarge p)))
    (pos ∙ ap (λ b. if b then large_pos t x else step_pos x) (sym large))
    ∙ ap (λ b. lowest (refused_if b (f.TooLarge (large_pos t x)))) large))
    (λ e. sum)

pub returns : goal.returns
returns c ms x t fault nodes names pos known =
    let sum = c.with-sum.ensures t (step_nodes x) (step_names x) known nodes names in
    one_walked ms t c.with-sum.result x c.args.fault
    (lower_alone c.args.fault
    ∙ lowest_two (step_refusals ms x) (refused_if (is_too_large (counted t x)) (f.TooLarge (large_pos t x)))
    c.args.fault None fault
    (ap (λ b. lowest (refused_if b (f.TooLarge (large_pos t x))))
    (sym c.if-is_too_large.false ∙ c.is_too_large.ensures (counted t x) sum)))
    (λ e. sum)
