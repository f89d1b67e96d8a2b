use Rattle.vl_parse_grammar.proofs.FirstFault.{faulty, whole, never_faulty}
use Rattle.vl_parse_grammar.proofs.TooDeep.{too_deep}
use Rattle.vl_parse_grammar.proofs.OneFault.{only_syntax, only_deep}
use Rattle.vl_parse_grammar.proofs.law.runs_stop_at_the_first_fault.Goals as goal

pub returns-clause-syntax : goal.returns-clause-syntax
returns-clause-syntax c tokens l h = faulty tokens l h

pub returns-clause-deep : goal.returns-clause-deep
returns-clause-deep c tokens l h = too_deep tokens l h

pub returns-clause-whole : goal.returns-clause-whole
returns-clause-whole c tokens h = whole tokens h

pub returns-clause-text : goal.returns-clause-text
returns-clause-text c kinds l x h = never_faulty kinds l x h

pub returns-clause-only_syntax : goal.returns-clause-only_syntax
returns-clause-only_syntax c tokens l x shallow = only_syntax tokens l x shallow

pub returns-clause-only_deep : goal.returns-clause-only_deep
returns-clause-only_deep c kinds l x = only_deep kinds l x
