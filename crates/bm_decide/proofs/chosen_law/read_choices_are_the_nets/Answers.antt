use Rattle.bm_decide.proofs.Fails.{bits_are_readable, read_choices}
use Rattle.bm_decide.proofs.chosen_law.read_choices_are_the_nets.Goals as goal

pub returns-clause-readable : goal.returns-clause-readable
returns-clause-readable c = bits_are_readable

pub returns-clause-of_net : goal.returns-clause-of_net
returns-clause-of_net c = read_choices
