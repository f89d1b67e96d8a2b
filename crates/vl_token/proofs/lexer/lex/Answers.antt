use Rattle.vl_token.proofs.Answer.{answer_one, answer_none, answer_same}
use Rattle.vl_token.proofs.lexer.lex.Goals as goal

pub returns-clause-one : goal.returns-clause-one
returns-clause-one c = answer_one _ _ _ _ c.read.ensures.found

pub returns-clause-none : goal.returns-clause-none
returns-clause-none c = answer_none _ _ _ _ c.read.ensures.refused

pub returns-clause-answered : goal.returns-clause-answered
returns-clause-answered c = answer_same _ _ _ _ c.read.ensures.found c.read.ensures.refused
