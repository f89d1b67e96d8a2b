use Rattle.wn_run.proofs.OldRun.{old_run}
use Rattle.wn_run.proofs.Chosen.{begins_as, extends}
use Rattle.wn_run.proofs.run_law.old_parts_of_runs_are_old_runs.Goals as goal

pub returns-clause-cycles : goal.returns-clause-cycles
returns-clause-cycles c = old_run

pub returns-clause-begins : goal.returns-clause-begins
returns-clause-begins c = begins_as

pub returns-clause-extends : goal.returns-clause-extends
returns-clause-extends c = extends
