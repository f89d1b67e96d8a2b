use Rattle.std.specs.Prelude.{length}
use Rattle.wn_net.specs.declared.parts.Reg.{Reg}
use Rattle.wn_opt.proofs.Sources.{table_reg}
use Rattle.wn_opt.proofs.hashed.Hashed.reg.Goals as goal

pub invariant_of-self : goal.invariant_of-self
invariant_of-self c =
    let reg : Reg = record { width = c.args.width; init = c.args.init; next = length c.self.inside.net.nodes } in
    table_reg c.self.inside.net c.reg.new.self c.self.inside.table reg c.reg.result c.self.invariant
    c.reg.ensures.built c.reg.ensures.same
