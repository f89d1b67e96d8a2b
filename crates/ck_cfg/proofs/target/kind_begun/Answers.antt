use Rattle.ck_cfg.proofs.Places.{kind_fits}
use Rattle.ck_cfg.proofs.target.kind_begun.Goals as goal

pub returns-clause-within : goal.returns-clause-within
returns-clause-within c = kind_fits c.args.word.now c.all.result.now c.kind_among.result c.kind_among.ensures
