use Rattle.rvf_case.proofs.Lengths.{length_step}
use Rattle.rvf_case.proofs.asking.of_lengths.Goals as goal

pub loop-check-preserved : goal.loop-check-preserved
loop-check-preserved c =
    length_step c.args.cycle c.loop-check.yielded c.in-Some.check c.loop-check.made c.add_in_cycle.new.made
    c.loop-check.invariant c.in_ok-add_in_cycle.ensures
