use Rattle.std.proofs.Common.{sym}
use Rattle.wn_net.specs.Net.{width_at}
use Rattle.wn_net.proofs.Stays.{is_there}
use Rattle.wn_opt.proofs.hashed.Hashed.mux.Goals as goal

pub place-requires-clause-fits : goal.place-requires-clause-fits
unfolding width_at
place-requires-clause-fits c = (
  is_there c.args.self.now c.args.cond c.requires.cond.0,
  c.requires.cond.1,
  (is_there c.args.self.now c.args.yes c.requires.yes, is_there c.args.self.now c.args.no c.requires.no.0, sym c.requires.no.1),
)
