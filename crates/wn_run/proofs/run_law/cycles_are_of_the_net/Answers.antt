use Rattle.wn_run.proofs.Given.{cycles_given, choices_run}
use Rattle.wn_run.proofs.run_law.cycles_are_of_the_net.Goals as goal

pub returns-clause-given : goal.returns-clause-given
returns-clause-given c = cycles_given

pub returns-clause-chosen : goal.returns-clause-chosen
returns-clause-chosen c = choices_run
