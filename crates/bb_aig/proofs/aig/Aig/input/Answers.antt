use Rattle.std.specs.Prelude.{◌∷◌}
use Rattle.std.proofs.Common.{ap, arith}
use Rattle.bb_aig.specs.Graph.{inputs_of}
use Rattle.bb_aig.specs.declared.node.AigNode.TheVariants as n
use Rattle.bb_aig.proofs.Values.{inputs_le}
use Rattle.bb_aig.proofs.aig.Aig.input.Goals as goal

pub push-requires-clause-inputs : goal.push-requires-clause-inputs
push-requires-clause-inputs c =
    omega (
      arith,
      c.saturating_add.ensures,
      c.self.invariant.counted,
      c.self.invariant.few,
      ap inputs_of c.self.view_is,
      inputs_le (n.False ∷ c.self.inside.behind.items),
    )
