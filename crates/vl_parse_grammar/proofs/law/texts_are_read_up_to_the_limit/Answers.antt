use Rattle.vl_parse_grammar.proofs.TooDeep.{text_run}
use Rattle.vl_parse_grammar.proofs.law.texts_are_read_up_to_the_limit.Goals as goal

pub returns : goal.returns
returns c tree w = text_run tree w
