use Rattle.std.proofs.Common.{sym, subst}
use Rattle.fv_graph.specs.Graph.{IsWithin}
use Rattle.aiger_text.specs.Circles.{IsFirstOnCircle}
use Rattle.aiger_text.proofs.LoopLaws.{looped_at}
use Rattle.aiger_text.proofs.wires.Wired.looped.Goals as goal

pub first_on_circle-requires-clause-within : goal.first_on_circle-requires-clause-within
first_on_circle-requires-clause-within c = subst IsWithin (sym c.requires.rows) c.requires.nodes.within

pub returns-clause-looped : goal.returns-clause-looped
returns-clause-looped c =
    looped_at c.args.self.now.inputs c.args.self.now.wires.items c.args.rows.now c.in-Some.gate c.index.result.now
    c.requires.rows (subst (IsFirstOnCircle c.args.rows.now) c.in-Some.is c.in_ok-gate.ensures) c.index.ensures

pub unreachable-requires : goal.unreachable-requires
unreachable-requires c =
    let none = subst (IsFirstOnCircle c.args.rows.now) c.in-None.is c.in_ok-gate.ensures in
    none c.requires.circle.0 c.requires.circle.1
