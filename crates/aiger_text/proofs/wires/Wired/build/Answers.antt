use Rattle.std.proofs.Common.{◌≡◌, ℕ, length, sym, subst, arith}
use Rattle.aiger_text.specs.Wires.{IsBuilt}
use Rattle.aiger_text.specs.Built.{Builds}
use Rattle.aiger_text.proofs.BuildLaws.{builds_none, built}
use Rattle.aiger_text.proofs.TurnLaws.{turn_left, turn_right, turn_more, root_few}
use Rattle.aiger_text.proofs.wires.Wired.build.Goals as goal

pub loop-gate-init : goal.loop-gate-init
loop-gate-init c =
    builds_none c.args.self.now.inputs _ c.args.self.now.wires.items c.args.order.now c.in_ok-draft.draft.aig
    c.in_ok-draft.draft.lits.items (omega arith) c.in_ok-draft.ensures

pub add-requires-clause-left : goal.add-requires-clause-left
add-requires-clause-left c =
    turn_left c.args.self.now.inputs c.args.self.now.root c.args.self.now.wires.items c.args.order.now c.requires.order
    c.requires.nodes c.as_slice-wires.result.now c.as_slice-wires.ensures.value c.loop-gate.gate-index
    (record { line = 0; left = 0; right = 0 }) c.loop-gate.draft.aig c.loop-gate.draft.lits.items
    c.loop-gate.invariant c.loop-gate-test.true

pub add-requires-clause-right : goal.add-requires-clause-right
add-requires-clause-right c =
    turn_right c.args.self.now.inputs c.args.self.now.root c.args.self.now.wires.items c.args.order.now
    c.requires.order c.requires.nodes c.as_slice-wires.result.now c.as_slice-wires.ensures.value
    c.loop-gate.gate-index (record { line = 0; left = 0; right = 0 }) c.loop-gate.draft.aig
    c.loop-gate.draft.lits.items c.loop-gate.invariant c.loop-gate-test.true

pub loop-gate-preserved : goal.loop-gate-preserved
loop-gate-preserved c =
    turn_more c.args.self.now.inputs c.args.self.now.root c.args.self.now.wires.items c.args.order.now c.requires.order
    c.requires.nodes c.as_slice-wires.result.now c.as_slice-wires.ensures.value c.loop-gate.gate-index
    (record { line = 0; left = 0; right = 0 }) c.loop-gate.draft.aig c.loop-gate.draft.lits.items
    c.loop-gate.invariant c.loop-gate-test.true c.add.new.self.aig c.add.new.self.lits.items
    c.in_ok-add.ensures.lits c.in_ok-add.ensures.gate

pub moved-root-requires-clause-few : goal.moved-root-requires-clause-few
moved-root-requires-clause-few c =
    let e : c.loop-gate.gate-index ≡ length c.args.order.now = omega (arith, c.loop-gate-test.false) in
    root_few c.args.self.now.inputs c.args.self.now.root c.args.self.now.wires.items c.args.order.now c.requires.order
    c.requires.nodes c.loop-gate.draft.aig c.loop-gate.draft.lits.items
    (subst (λ (a : ℕ). Builds c.args.self.now.inputs c.args.self.now.wires.items c.args.order.now a
    c.loop-gate.draft.aig c.loop-gate.draft.lits.items) e c.loop-gate.invariant)

pub returns : goal.returns
returns c =
    let e : c.loop-gate.gate-index ≡ length c.args.order.now = omega (arith, c.loop-gate-test.false) in
    subst (IsBuilt c.args.self.now.inputs c.args.self.now.root c.args.self.now.wires.items c.loop-gate.draft.aig)
    (sym c.moved-root.ensures)
    (built c.args.self.now.inputs c.args.self.now.wires.items c.args.order.now c.requires.order c.args.self.now.root
    c.loop-gate.draft.aig c.loop-gate.draft.lits.items c.requires.nodes.root_there
    (subst (λ (a : ℕ). Builds c.args.self.now.inputs c.args.self.now.wires.items c.args.order.now a
    c.loop-gate.draft.aig c.loop-gate.draft.lits.items) e c.loop-gate.invariant))
