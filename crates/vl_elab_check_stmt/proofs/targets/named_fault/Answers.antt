use Rattle.std.proofs.Common.{ap, ◌∙◌}
use Rattle.vl_elab_spec.specs.Refused.{lower_of}
use Rattle.vl_elab_check_stmt.proofs.targets.named_fault.Goals as goal

pub returns : goal.returns
returns c =
    c.first_of.ensures
    ∙ (λ i. lower_of ((c.first_of-own.ensures ∙ ap (λ g. lower_of c.args.before g)
    (c.in_ok-assigned.ensures c.args.names.now)) i) (c.in_ok-selected.ensures i))
