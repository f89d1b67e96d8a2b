use Rattle.vl_mean_examples.proofs.DesignMaps as maps
use Rattle.vl_mean_examples.proofs.designs.a_block_assigns_one_word.Goals as goal

pub returns-clause-holds : goal.returns-clause-holds
returns-clause-holds c = maps.words_hold

pub returns-clause-driven : goal.returns-clause-driven
returns-clause-driven c = maps.words_driven

pub returns-clause-begins : goal.returns-clause-begins
returns-clause-begins c = maps.words_begin

pub returns-clause-no_other_begin : goal.returns-clause-no_other_begin
returns-clause-no_other_begin c = maps.words_begin_else

pub returns-clause-kept : goal.returns-clause-kept
returns-clause-kept c = maps.words_kept

pub returns-clause-not_changed : goal.returns-clause-not_changed
returns-clause-not_changed c = maps.words_changed
