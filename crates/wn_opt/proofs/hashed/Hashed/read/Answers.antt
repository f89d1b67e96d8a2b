use Rattle.std.proofs.Common.{arith}
use Rattle.std.proofs.lemmas.List.{length-map}
use Rattle.wn_net.specs.declared.parts.Mem.{Mem}
use Rattle.wn_net.proofs.Stays.{is_there}
use Rattle.wn_opt.proofs.hashed.Hashed.read.Goals as goal

pub place-requires-clause-fits : goal.place-requires-clause-fits
place-requires-clause-fits c = (
  omega (arith, length-map c.args.self.now.mems (λ (m : Mem). m.width), c.requires.mem),
  is_there c.args.self.now c.args.addr c.requires.addr,
)
