use Rattle.vl_parse_grammar.proofs.OneSource.{one_source}
use Rattle.vl_parse_grammar.proofs.law.a_text_has_one_tree.Goals as goal

pub returns : goal.returns
returns c tree other tokens w v h i = one_source tree other tokens w v h i
