use Rattle.std.proofs.Common.{sym, ◌∙◌}
use Rattle.vl_elab_check.proofs.Opening.{head_here, head_on, head_stop, none_here}
use Rattle.vl_elab_check.proofs.steps.head.Goals as goal

pub returns-then-is_some-clause-walked : goal.returns-then-is_some-clause-walked
returns-then-is_some-clause-walked c ms t u text modules path totals h =
    head_stop c.args.module.now u text modules path c.args.used.now.inside c.args.used.now.here h
    c.header_of-parameters.result.now c.header_of-parameters.ensures ms t c.walk_headers.new.totals
    c.in_ok-fault.fault (λ p a s b r o. c.in_ok-fault.ensures.walked ms p t a s b r o totals)
    (sym c.is_some.ensures ∙ c.if-is_some.true)

pub returns-then-is_some-clause-here : goal.returns-then-is_some-clause-here
returns-then-is_some-clause-here c gone =
    none_here c.in_ok-fault.fault (sym c.is_some.ensures ∙ c.if-is_some.true) gone

pub returns-clause-walked : goal.returns-clause-walked
returns-clause-walked c ms t u text modules path totals h =
    head_on c.args.module.now u text modules path c.args.used.now.inside c.args.used.now.here h
    c.header_of-parameters.result.now c.header_of-parameters.ensures c.in_ok-fault.fault
    (sym c.is_some.ensures ∙ c.if-is_some.false) c.walk_headers.new.inside c.walk_headers.new.earlier
    c.walk_headers.new.reached c.in_ok-fault.ensures.inside c.in_ok-fault.ensures.earlier
    c.in_ok-fault.ensures.reached c.ports_of.result.now c.ports_of.ensures c.in_ok-walk_ports.field-0 ms t
    c.walk_headers.new.totals c.walk_ports.new.totals
    (λ p a s b r o. c.in_ok-fault.ensures.walked ms p t a s b r o totals)
    (λ p b a n k. c.in_ok-walk_ports.ensures.walked ms p u b a n k)

pub returns-clause-here : goal.returns-clause-here
returns-clause-here c gone u text modules path h =
    head_here c.args.module.now u text modules path c.args.used.now.inside c.args.used.now.here h
    c.header_of-parameters.result.now c.header_of-parameters.ensures c.in_ok-fault.fault
    (sym c.is_some.ensures ∙ c.if-is_some.false) c.walk_headers.new.inside c.walk_headers.new.earlier
    c.walk_headers.new.reached c.in_ok-fault.ensures.inside c.in_ok-fault.ensures.earlier
    c.in_ok-fault.ensures.reached c.ports_of.result.now c.ports_of.ensures c.in_ok-walk_ports.field-0 gone
    c.walk_ports.new.earlier c.walk_ports.new.reached c.in_ok-walk_ports.ensures.earlier
    c.in_ok-walk_ports.ensures.reached
