use Rattle.ck_cfg.proofs.ChannelCounts.{read_has_stated, read_is_few}
use Rattle.ck_cfg.proofs.Depths.{read_is_lawful}
use Rattle.ck_cfg.proofs.read.read_cfg.Goals as goal

pub returns-clause-lawful : goal.returns-clause-lawful
returns-clause-lawful c = read_is_lawful c.args.bytes.now c.read_text.result c.read_text.ensures

pub returns-clause-channels : goal.returns-clause-channels
returns-clause-channels c = read_has_stated c.args.bytes.now c.read_text.result c.read_text.ensures

pub returns-clause-one_or_two : goal.returns-clause-one_or_two
returns-clause-one_or_two c = read_is_few c.args.bytes.now c.read_text.result c.read_text.ensures
