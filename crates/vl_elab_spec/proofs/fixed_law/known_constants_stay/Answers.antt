use Rattle.vl_elab_spec.proofs.Stays.{known_settled, known_bound}
use Rattle.vl_elab_spec.proofs.fixed_law.known_constants_stay.Goals as goal

pub returns-clause-settled : goal.returns-clause-settled
returns-clause-settled c = known_settled

pub returns-clause-bound : goal.returns-clause-bound
returns-clause-bound c = known_bound
