use Rattle.std.specs.Prelude.{◌++◌, ◌∷◌, [], length}
use Rattle.std.proofs.Common.{ap, ◌∙◌, arith}
use Rattle.bb_aig.specs.declared.node.AigNode.TheVariants as n
use Rattle.bb_aig.proofs.Values.{kept_push_by, adds_by}
use Rattle.bb_aig.proofs.aig.Aig.push.Goals as goal

pub invariant_of-self-2 : goal.invariant_of-self-2
invariant_of-self-2 c =
    kept_push_by (n.False ∷ c.self.inside.behind.items) c.args.self.now
    (n.False ∷ c.push.new.self.items) c.args.node c.self.inside.inputs c.args.inputs
    c.self.invariant c.self.view_is (ap (λ gs. n.False
    ∷ gs) c.in_ok-push.ensures.items) c.requires.fits c.requires.inputs (omega arith)

pub returns-clause-adds : goal.returns-clause-adds
returns-clause-adds c =
    adds_by c.args.self.now (n.False ∷ c.push.new.self.items) c.args.node _
    (ap (λ gs. n.False ∷ gs) c.in_ok-push.ensures.items ∙ ap (λ g. g ++ c.args.node ∷ []) c.self.view_is)
    (omega (arith, ap length c.self.view_is))
