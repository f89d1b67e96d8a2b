use Rattle.wn_net.specs.declared.parts.Input.{Input}
use Rattle.wn_opt.proofs.Sources.{table_input}
use Rattle.wn_opt.proofs.hashed.Hashed.input.Goals as goal

pub invariant_of-self : goal.invariant_of-self
invariant_of-self c =
    let input : Input = record { width = c.args.width; kind = c.args.kind } in
    table_input c.self.inside.net c.input.new.self c.self.inside.table input c.input.result c.self.invariant
    c.input.ensures.built c.input.ensures.same
