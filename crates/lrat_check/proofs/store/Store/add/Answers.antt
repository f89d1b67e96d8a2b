use Rattle.std.proofs.Common.{◌∙◌}
use Rattle.lrat_check.proofs.store.Store.add.Goals as goal

pub returns-then-self-len-clause-ok : goal.returns-then-self-len-clause-ok
returns-then-self-len-clause-ok c = c.pack.ensures.coded ∙ c.in_ok-put.ensures.ok
