use Rattle.std.proofs.Common.{arith}
use Rattle.ck_cfg.proofs.Ends.{bracket_found, bracket_none}
use Rattle.ck_cfg.proofs.line.before_bracket.Goals as goal

pub returns-then-last-eq93 : goal.returns-then-last-eq93
returns-then-last-eq93 c = bracket_found c.args.text.now (omega arith) c.if-last-eq93.true

pub returns-else-last-eq93 : goal.returns-else-last-eq93
returns-else-last-eq93 c = bracket_none c.args.text.now (omega arith) c.if-last-eq93.false
