use Rattle.std.proofs.Common.{sym}
use Rattle.cnf_form.proofs.Starts.{end_last, end_next}
use Rattle.cnf_form.proofs.flat.end_of.Goals as goal

pub returns-then-next-starts : goal.returns-then-next-starts
returns-then-next-starts c = sym (end_next c.args.starts.now c.args.place c.args.end c.if-next-starts.true)

pub returns-else-next-starts : goal.returns-else-next-starts
returns-else-next-starts c = sym (end_last c.args.starts.now c.args.place c.args.end c.if-next-starts.false)
