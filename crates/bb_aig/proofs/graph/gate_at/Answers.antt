use Rattle.std.specs.Prelude.{◌≡◌, slice_get, Some}
use Rattle.bb_aig.specs.declared.node.AigNode.TheVariants as n
use Rattle.bb_aig.proofs.AigGates.{gate_value}
use Rattle.bb_aig.proofs.graph.gate_at.Goals as goal

pub returns-then-d-b-clause-both : goal.returns-then-d-b-clause-both
returns-then-d-b-clause-both c =
    let e : slice_get c.args.aig.now c.args.index ≡ Some (n.And c.args.a c.args.b) =
    cc (c.in-Some.ensures.value, c.in-And.is, c.if-c-a.true, c.if-d-b.true) in
    gate_value c.args.aig.now c.args.index c.args.a c.args.b c.node.ensures.whole e
