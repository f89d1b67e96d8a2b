use Rattle.wn_net.specs.Net.{width_at}
use Rattle.wn_net.proofs.Stays.{is_there}
use Rattle.wn_opt.proofs.hashed.Hashed.concat.Goals as goal

pub place-requires-clause-fits : goal.place-requires-clause-fits
unfolding width_at
place-requires-clause-fits c = (
  is_there c.args.self.now c.args.a c.requires.left,
  is_there c.args.self.now c.args.b c.requires.right,
  c.requires.few,
)
