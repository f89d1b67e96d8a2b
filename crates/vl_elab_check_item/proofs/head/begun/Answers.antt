use Rattle.std.proofs.Common.{◌∙◌, ap, sym}
use Rattle.std.specs.Prelude.{Some, None, is_none, ◌&&◌, if◌then◌else◌}
use Rattle.vl_elab_spec.specs.Items.{has_value}
use Rattle.vl_elab_spec.specs.Refused.{lower_of}
use Rattle.vl_elab_const.specs.Numbers.{genvar_number}
use Rattle.vl_elab_check_item.proofs.Heads.{no_next, own_alone, some_next}
use Rattle.vl_elab_check_item.proofs.head.begun.Goals as goal

pub returns-then-is_some-clause-fault : goal.returns-then-is_some-clause-fault
returns-then-is_some-clause-fault c = c.first_of.ensures ∙ ap (lower_of c.args.own) c.in_ok-step.ensures

pub returns-then-is_some-clause-next : goal.returns-then-is_some-clause-next
returns-then-is_some-clause-next c =
    let next = genvar_number c.args.numbers.now c.args.head.now.next in
    let valued = has_value c.args.names.now c.args.head.now.next in
    no_next c.in_ok-step.step valued next (sym c.is_some.ensures ∙ c.if-is_some.true)
    ∙ ap (λ o. if is_none o && valued then Some next else None) c.in_ok-step.ensures

pub returns-clause-fault : goal.returns-clause-fault
returns-clause-fault c =
    own_alone c.args.own c.in_ok-step.step (sym c.is_some.ensures ∙ c.if-is_some.false)
    ∙ ap (lower_of c.args.own) c.in_ok-step.ensures

pub returns-clause-next : goal.returns-clause-next
returns-clause-next c =
    let next = genvar_number c.args.numbers.now c.args.head.now.next in
    let valued = has_value c.args.names.now c.args.head.now.next in
    c.in_ok-next.ensures
    ∙ some_next c.in_ok-step.step valued next (sym c.is_some.ensures ∙ c.if-is_some.false)
    ∙ ap (λ o. if is_none o && valued then Some next else None) c.in_ok-step.ensures
