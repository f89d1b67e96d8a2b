use Rattle.std.proofs.Common.{◌∙◌, ap}
use Rattle.vl_elab_spec.specs.declared.elab_fault.ElabFault.TheVariants as f
use Rattle.vl_elab_spec.specs.Expressions.{refused_if}
use Rattle.vl_elab_spec.specs.Refused.{lower_of, lowest}
use Rattle.vl_elab_check_item.specs.TurnParts.{begins}
use Rattle.vl_elab_check_item.proofs.Heads.{same_test}
use Rattle.vl_elab_check_item.proofs.head.judge_last.Goals as goal

pub returns : goal.returns
returns c =
    let own = c.in_ok-own.own in
    c.first_of.ensures ∙ ap (lower_of own) (c.loop_if.ensures ∙ ap (λ b. lowest (refused_if b (f.GenLoop c.args.pos)))
    (same_test c.args.names.now c.args.numbers.now c.args.head.now own c.in_ok-begins.begins c.in_ok-own.ensures
    c.in_ok-begins.ensures))
    ∙ ap (λ o. lower_of o (lowest (refused_if (begins c.args.names.now c.args.numbers.now c.args.head.now)
    (f.GenLoop c.args.pos)))) c.in_ok-own.ensures
