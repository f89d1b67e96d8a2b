use Rattle.std.proofs.Common.{◌∙◌, ap, ◌++◌}
use Rattle.std.specs.Option.{option_copied}
use Rattle.std.specs.Prelude.{is_none}
use Rattle.vl_elab_spec.specs.declared.elab_fault.ElabFault.TheVariants as f
use Rattle.vl_elab_spec.specs.Expressions.{refused_if}
use Rattle.vl_elab_spec.specs.Items.{override_value}
use Rattle.vl_elab_spec.specs.Refused.{lowest}
use Rattle.vl_elab_check_expr.proofs.Lowest.{lowest_two}
use Rattle.vl_elab_check_item.proofs.Contexts.{copied_none}
use Rattle.vl_elab_check_item.proofs.parameters.override_fault.Goals as goal

pub returns : goal.returns
returns c =
    let given = c.args.given.now in
    let parameter = option_copied c.args.parameter in
    let twice = refused_if c.args.is_twice (f.Twice given.port given.pos) in
    let missing = refused_if (is_none parameter) (f.Param given.port given.pos) in
    c.first_of-2.ensures
    ∙ lowest_two (twice ++ missing) (override_value c.args.names.now c.args.inner.now parameter given.value) _ _
    (c.first_of.ensures ∙ lowest_two twice missing _ _ c.in_ok-twice.ensures
    (c.in_ok-missing.ensures ∙ ap (λ b. lowest (refused_if b (f.Param given.port given.pos)))
    (copied_none c.is_none.result c.args.parameter c.is_none.ensures))) c.in_ok-value.ensures
