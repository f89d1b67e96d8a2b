use Rattle.std.proofs.Common.{None, sym, subst, ◌∙◌}
use Rattle.fv_graph.specs.Graph.{IsWithin}
use Rattle.fv_graph.specs.Walked.{ComesOf}
use Rattle.aiger_text.specs.Circles.{IsFirstOnCircle}
use Rattle.aiger_text.proofs.AnswerLaws.{nodes_few, none_on_circle}
use Rattle.aiger_text.proofs.wires.Wired.graph.Goals as goal

pub successors-requires : goal.successors-requires
successors-requires c =
    nodes_few c.args.self.now.inputs c.args.self.now.root c.args.self.now.wires.items c.requires

pub walk-requires-clause-within : goal.walk-requires-clause-within
walk-requires-clause-within c =
    subst IsWithin (sym (c.as_slice.ensures.value ∙ c.in_ok-rows.ensures)) c.requires.within

pub returns-in-Order-clause-ordered : goal.returns-in-Order-clause-ordered
returns-in-Order-clause-ordered c =
    subst (λ g. IsFirstOnCircle g None) (c.as_slice.ensures.value ∙ c.in_ok-rows.ensures)
    (none_on_circle c.as_slice.result.now c.in-Order.order
    (subst (ComesOf c.as_slice.result.now) c.in-Order.is c.in_ok-order.ensures))
