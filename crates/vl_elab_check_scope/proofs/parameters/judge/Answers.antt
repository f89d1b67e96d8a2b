use Rattle.std.proofs.Common.{◌∙◌, ap, sym, subst}
use Rattle.vl_elab_params.specs.Reached.{over}
use Rattle.vl_elab_check_scope.proofs.parameters.judge.Goals as goal

pub returns-clause-inside : goal.returns-clause-inside
returns-clause-inside c =
    let back = c.take_back.ensures c.args.reached.now c.args.inside.now.around
    (c.in_ok-fault.ensures.before ∙ c.in_ok-hand_over.ensures.names) in
    λ i. record c.args.inside.now { names = c.in_ok-fault.ensures.names i; around = back.1 i }

pub returns-clause-reached : goal.returns-clause-reached
returns-clause-reached c =
    (c.take_back.ensures c.args.reached.now c.args.inside.now.around
    (c.in_ok-fault.ensures.before ∙ c.in_ok-hand_over.ensures.names)).0

pub returns-clause-fault : goal.returns-clause-fault
returns-clause-fault c at before same said names reached =
    c.in_ok-fault.ensures.fault at before same
    (c.in_ok-hand_over.ensures.before at before same.also_named reached said)
    (c.contains-is_twice.ensures ∙ names c.args.parameter.now.name)
