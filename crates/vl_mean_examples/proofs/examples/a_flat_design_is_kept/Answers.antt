use Rattle.vl_mean_examples.proofs.FlatRefused as refused
use Rattle.vl_mean_examples.proofs.examples.a_flat_design_is_kept.Goals as goal

pub returns-clause-not_a_variable : goal.returns-clause-not_a_variable
returns-clause-not_a_variable c = refused.not_a_variable

pub returns-clause-not_the_clock : goal.returns-clause-not_the_clock
returns-clause-not_the_clock c = refused.not_the_clock

pub returns-clause-not_varying : goal.returns-clause-not_varying
returns-clause-not_varying c = refused.not_varying

pub returns-clause-not_undeclared : goal.returns-clause-not_undeclared
returns-clause-not_undeclared c = refused.not_undeclared
