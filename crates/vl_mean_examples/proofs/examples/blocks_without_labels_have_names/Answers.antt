use Rattle.vl_mean_examples.proofs.Maps.{blocks_hold, blocks_zero}
use Rattle.vl_mean_examples.proofs.examples.blocks_without_labels_have_names.Goals as goal

pub returns-clause-holds : goal.returns-clause-holds
returns-clause-holds c = blocks_hold

pub returns-clause-not_zero : goal.returns-clause-not_zero
returns-clause-not_zero c = blocks_zero
