use Rattle.std.proofs.Common.{◌≡◌, ◌∙◌, ap, sym}
use Rattle.std.specs.Prelude.{None, if◌then◌else◌}
use Rattle.std.proofs.lemmas.Result.{IfOk-weaker}
use Rattle.vl_elab_spec.specs.Items.{genvar_refusals}
use Rattle.vl_elab_spec.specs.Refused.{lowest}
use Rattle.vl_elab_check_item.specs.TurnParts.{in_turn, idle_fault}
use Rattle.vl_elab_check_item.proofs.head.idle_fault.Goals as goal

pub returns-then-begins-clause-fault : goal.returns-then-begins-clause-fault
returns-then-begins-clause-fault c =
    let head = c.args.head.now in
    let step = lowest (genvar_refusals (in_turn head.variable c.args.start c.args.names.now) head.next) in
    ap (λ b. if b then None else step) (sym c.if-begins.true ∙ c.in_ok-begins.ensures.begins)

pub returns-clause-fault : goal.returns-clause-fault
returns-clause-fault c =
    let ns = c.args.names.now in
    let head = c.args.head.now in
    let start = c.args.start in
    let step = lowest (genvar_refusals (in_turn head.variable start ns) head.next) in
    IfOk-weaker c.idle_step.result
    (λ g. g ≡ lowest (genvar_refusals (in_turn head.variable start c.begins_at.new.names) head.next))
    (λ g. g ≡ idle_fault ns c.args.numbers.now head start)
    (λ g h. h ∙ ap (λ ms. lowest (genvar_refusals (in_turn head.variable start ms) head.next)) c.in_ok-begins.ensures.names
    ∙ ap (λ b. if b then None else step) (sym c.if-begins.false ∙ c.in_ok-begins.ensures.begins))
    c.idle_step.ensures.fault
