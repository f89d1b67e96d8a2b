use Rattle.vl_elab_spec.proofs.Passed.{none_walked, one_walked, stopped_walked, passed_walked}
use Rattle.vl_elab_spec.proofs.walked_law.steps_are_walked_in_order.Goals as goal

pub returns-clause-none : goal.returns-clause-none
returns-clause-none c = none_walked

pub returns-clause-one : goal.returns-clause-one
returns-clause-one c = one_walked

pub returns-clause-stopped : goal.returns-clause-stopped
returns-clause-stopped c = stopped_walked

pub returns-clause-passed : goal.returns-clause-passed
returns-clause-passed c = passed_walked
