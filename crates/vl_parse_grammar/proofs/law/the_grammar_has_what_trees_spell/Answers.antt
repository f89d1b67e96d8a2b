use Rattle.vl_parse_grammar.proofs.FirstFault.{spelled_text, text_accepted}
use Rattle.vl_parse_grammar.proofs.law.the_grammar_has_what_trees_spell.Goals as goal

pub returns-clause-spelled : goal.returns-clause-spelled
returns-clause-spelled c tokens h = spelled_text tokens h

pub returns-clause-accepted : goal.returns-clause-accepted
returns-clause-accepted c kinds x = text_accepted kinds x
