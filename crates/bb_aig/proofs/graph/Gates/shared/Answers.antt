use Rattle.std.specs.Prelude.{List}
use Rattle.std.proofs.Common.{◌∙◌, subst}
use Rattle.bb_aig.specs.declared.node.AigNode.{AigNode}
use Rattle.bb_aig.specs.Gates.{Grows}
use Rattle.bb_aig.proofs.Growth.{grows_gate}
use Rattle.bb_aig.proofs.graph.Gates.shared.Goals as goal

pub returns-then-put-clause-grows : goal.returns-then-put-clause-grows
returns-then-put-clause-grows c =
    let P : List AigNode → Type 0 = λ g. Grows g c.and.new.self in
    subst P (c.self.view_is ∙ c.make_room.ensures)
    (grows_gate c.self.inside.aig c.and.new.self c.args.a c.args.b c.in_ok-lit.lit c.in_ok-lit.ensures.adds)

pub returns-else-put-clause-grows : goal.returns-else-put-clause-grows
returns-else-put-clause-grows c =
    let P : List AigNode → Type 0 = λ g. Grows g c.and.new.self in
    subst P (c.self.view_is ∙ c.make_room.ensures)
    (grows_gate c.self.inside.aig c.and.new.self c.args.a c.args.b c.in_ok-lit.lit c.in_ok-lit.ensures.adds)
