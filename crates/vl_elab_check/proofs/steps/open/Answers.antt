use Rattle.std.specs.Prelude.{[]}
use Rattle.std.proofs.Common.{sym, ◌∙◌}
use Rattle.vl_mean.specs.Walk.{module_place}
use Rattle.vl_elab_spec.specs.Within.{front_steps, head_steps}
use Rattle.vl_elab_spec.proofs.Behind.{goes_on, stops}
use Rattle.vl_elab_check.proofs.Opening.{none_here}
use Rattle.vl_elab_check.proofs.steps.open.Goals as goal

pub returns-then-is_some-clause-walked : goal.returns-then-is_some-clause-walked
returns-then-is_some-clause-walked c ms t at u text modules path totals h inner =
    let m = c.args.module.now in
    stops ms t c.front.new.walk.totals (front_steps at m u text c.args.instance.now)
    (head_steps (module_place m u text modules) m u) c.in_ok-fault.fault (sym c.is_some.ensures ∙ c.if-is_some.true)
    (c.in_ok-fault.ensures.walked ms t at u text modules totals h (inner []).known.alike)

pub returns-then-is_some-clause-here : goal.returns-then-is_some-clause-here
returns-then-is_some-clause-here c gone =
    none_here c.in_ok-fault.fault (sym c.is_some.ensures ∙ c.if-is_some.true) gone

pub returns-clause-walked : goal.returns-clause-walked
returns-clause-walked c ms t at u text modules path totals h inner =
    let m = c.args.module.now in
    goes_on ms t c.front.new.walk.totals c.head.new.walk.totals (front_steps at m u text c.args.instance.now)
    (head_steps (module_place m u text modules) m u) c.in_ok-fault.fault c.in_ok-head.field-0
    (sym c.is_some.ensures ∙ c.if-is_some.false)
    (c.in_ok-fault.ensures.walked ms t at u text modules totals h (inner []).known.alike)
    (λ b k. c.in_ok-head.ensures.walked ms b u text modules path k (inner text))

pub returns-clause-path : goal.returns-clause-path
returns-clause-path c = c.in_ok-head.ensures.path ∙ c.in_ok-fault.ensures.path
