use Rattle.std.proofs.Common.{◌≡◌, ◌∙◌}
use Rattle.std.proofs.lemmas.Result.{IfOk-weaker}
use Rattle.vl_mean.specs.Walk.{Place}
use Rattle.vl_elab_spec.specs.Items.{head_refusals}
use Rattle.vl_elab_spec.specs.Meanings.{meaning_in, meanings_at}
use Rattle.vl_elab_spec.specs.Refused.{lowest}
use Rattle.vl_elab_scope.specs.Alike.{Alike}
use Rattle.vl_elab_const.specs.Numbers.{HaveNumbers}
use Rattle.vl_elab_check_item.specs.TurnParts.{variable_of, head_fault}
use Rattle.vl_elab_check_item.proofs.Heads.{same_head}
use Rattle.vl_elab_check_item.proofs.head.head_fault.Goals as goal

pub returns-clause-fault : goal.returns-clause-fault
returns-clause-fault c =
    let ns = c.args.names.now in
    let numbers = c.args.numbers.now in
    let head = c.args.head.now in
    IfOk-weaker c.judge_head.result
    (λ g. g ≡ head_fault ns numbers c.args.pos head (variable_of (meaning_in ns head.variable)))
    (λ g. (at : Place) → Alike ns (meanings_at at) → HaveNumbers numbers at.scopes
    → g ≡ lowest (head_refusals at c.args.pos head (meaning_in (meanings_at at) head.variable)))
    (λ g h at same agree. h ∙ same_head at ns numbers same agree head c.args.pos) c.judge_head.ensures.fault
