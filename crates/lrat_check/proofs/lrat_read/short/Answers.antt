use Rattle.std.proofs.Common.{arith}
use Rattle.lrat_check.proofs.ReadSteps.{short_is, short_small}
use Rattle.lrat_check.proofs.lrat_read.short.Goals as goal

pub returns-clause-value : goal.returns-clause-value
returns-clause-value c = short_is c.natural.result c.args.word.now (omega arith) c.natural.ensures.value

pub returns-clause-small : goal.returns-clause-small
returns-clause-small c = short_small c.natural.result c.args.word.now (omega arith) c.natural.ensures.value
