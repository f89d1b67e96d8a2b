use Rattle.vl_elab_params.proofs.Whole.{entered_alike, entered_numbers}
use Rattle.vl_elab_params.proofs.param_law.entered_parameters_are_those_defined.Goals as goal

pub returns-clause-names : goal.returns-clause-names
returns-clause-names c = entered_alike

pub returns-clause-numbers : goal.returns-clause-numbers
returns-clause-numbers c = entered_numbers
