use Rattle.std.proofs.Common.{◌∙◌}
use Rattle.rvf_case.proofs.OneNamed.{named_step}
use Rattle.rvf_case.proofs.asking.of_named.Goals as goal

pub loop-check-preserved : goal.loop-check-preserved
loop-check-preserved c =
    c.in_ok-add_named.ensures
    ∙ named_step c.args.name.now c.loop-check.yielded c.in-Some.check c.loop-check.made c.loop-check.invariant
