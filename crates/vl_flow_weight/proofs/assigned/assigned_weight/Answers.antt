use Rattle.std.proofs.Common.{◌≡◌, rules}
use Rattle.std.specs.Prelude.{max}
use Rattle.vl_flow_weight.proofs.Statements.{assignment_weighs}
use Rattle.vl_flow_weight.proofs.assigned.assigned_weight.Goals as goal

pub returns : goal.returns
returns c =
    let large : c.max-bits.result ≡ max c.target_bits.result c.bits_of-own.result = search rules in
    assignment_weighs c.args.decls.now c.args.target.now c.args.expr.now c.weigh-weighed.result c.bits_of-own.result
    c.target_bits.result c.max-bits.result c.target_weight.result c.at.result c.plus.result c.weigh-weighed.ensures
    c.bits_of-own.ensures (search rules) c.target_bits.ensures large c.target_weight.ensures c.at.ensures
    c.plus.ensures
