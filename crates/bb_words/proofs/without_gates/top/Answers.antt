use Rattle.std.proofs.Common.{arith}
use Rattle.bb_words.proofs.Lits.{lit_in}
use Rattle.bb_words.proofs.Copies.{top_is}
use Rattle.bb_words.proofs.without_gates.top.Goals as goal

pub returns-clause-there : goal.returns-clause-there
returns-clause-there c = λ graph h. lit_in graph c.args.word.now _ _ h (omega arith)

pub returns-clause-value : goal.returns-clause-value
returns-clause-value c = λ graph x. top_is graph x c.args.word.now _ _ (omega arith)
