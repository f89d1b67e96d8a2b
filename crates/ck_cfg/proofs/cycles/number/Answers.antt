use Rattle.ck_cfg.proofs.Compared.{number_read}
use Rattle.ck_cfg.proofs.cycles.number.Goals as goal

pub returns : goal.returns
returns c = number_read c.args.word.now c.natural.result c.natural.ensures.value
