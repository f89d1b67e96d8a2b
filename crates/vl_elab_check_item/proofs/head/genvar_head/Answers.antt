use Rattle.std.proofs.Common.{◌≡◌, ◌∙◌}
use Rattle.std.specs.Prelude.{if◌then◌else◌, is_none, ◌&&◌}
use Rattle.std.proofs.lemmas.Result.{IfOk-weaker}
use Rattle.vl_elab_spec.specs.Items.{has_value, without_start}
use Rattle.vl_elab_spec.specs.Refused.{lower_of, lowest}
use Rattle.vl_elab_const.specs.Numbers.{genvar_number}
use Rattle.vl_elab_check_item.specs.declared.head.Variable.TheVariants as v
use Rattle.vl_elab_check_item.specs.TurnParts.{begun_fault, head_fault}
use Rattle.vl_elab_check_item.proofs.Heads.{started, unstarted}
use Rattle.vl_elab_check_item.proofs.head.genvar_head.Goals as goal

pub returns-then-starts-clause-fault : goal.returns-then-starts-clause-fault
returns-then-starts-clause-fault c =
    let ns = c.args.names.now in
    let numbers = c.args.numbers.now in
    let head = c.args.head.now in
    let own = c.in_ok-own.own in
    let valued = has_value ns head.start in
    let begun = begun_fault ns numbers head c.args.pos (genvar_number numbers head.start) in
    let without = lowest (without_start head ns) in
    IfOk-weaker c.begun_head.result (λ g. g ≡ begun) (λ g. g ≡ head_fault ns numbers c.args.pos head v.Genvar)
    (λ g h. h ∙ started own begun without c.in_ok-starts.starts valued c.in_ok-starts.ensures c.if-starts.true
    ∙ (λ i. let start = c.in_ok-own.ensures i in
    lower_of start (if is_none start && valued then begun else without)))
    c.begun_head.ensures.fault

pub returns-in_ok-rest-clause-fault : goal.returns-in_ok-rest-clause-fault
returns-in_ok-rest-clause-fault c =
    let ns = c.args.names.now in
    let numbers = c.args.numbers.now in
    let head = c.args.head.now in
    let own = c.in_ok-own.own in
    let valued = has_value ns head.start in
    let begun = begun_fault ns numbers head c.args.pos (genvar_number numbers head.start) in
    let without = lowest (without_start head ns) in
    c.first_of.ensures ∙ (λ i. lower_of own (c.in_ok-rest.ensures.fault i))
    ∙ unstarted own begun without c.in_ok-starts.starts valued c.in_ok-starts.ensures c.if-starts.false
    ∙ (λ i. let start = c.in_ok-own.ensures i in
    lower_of start (if is_none start && valued then begun else without))
