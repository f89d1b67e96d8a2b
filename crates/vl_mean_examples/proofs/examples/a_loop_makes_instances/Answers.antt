use Rattle.vl_mean_examples.proofs.Maps.{looped_holds, looped_turned, looped_apart}
use Rattle.vl_mean_examples.proofs.examples.a_loop_makes_instances.Goals as goal

pub returns-clause-holds : goal.returns-clause-holds
returns-clause-holds c = looped_holds

pub returns-clause-not_turned : goal.returns-clause-not_turned
returns-clause-not_turned c = looped_turned

pub returns-clause-not_apart : goal.returns-clause-not_apart
returns-clause-not_apart c = looped_apart
