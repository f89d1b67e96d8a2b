use Rattle.vl_elab_scope.proofs.Items.{same_range, same_width, same_names, same_given, same_value_context}
use Rattle.vl_elab_scope.proofs.Items.{same_assignments, same_event, same_genvar}
use Rattle.vl_elab_scope.proofs.alike_law.declarations_are_refused_alike.Goals as goal

pub returns-clause-range : goal.returns-clause-range
returns-clause-range c = same_range

pub returns-clause-width : goal.returns-clause-width
returns-clause-width c = same_width

pub returns-clause-names : goal.returns-clause-names
returns-clause-names c = same_names

pub returns-clause-value : goal.returns-clause-value
returns-clause-value c = same_given

pub returns-clause-parameter : goal.returns-clause-parameter
returns-clause-parameter c = same_value_context

pub returns-clause-assignments : goal.returns-clause-assignments
returns-clause-assignments c = same_assignments

pub returns-clause-event : goal.returns-clause-event
returns-clause-event c = same_event

pub returns-clause-genvar : goal.returns-clause-genvar
returns-clause-genvar c = same_genvar
