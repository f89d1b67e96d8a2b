use Rattle.vl_elab_scope.proofs.Items.{same_output, same_input}
use Rattle.vl_elab_scope.proofs.alike_law.instances_are_refused_alike.Goals as goal

pub returns-clause-output : goal.returns-clause-output
returns-clause-output c = same_output

pub returns-clause-input : goal.returns-clause-input
returns-clause-input c = same_input
