use Rattle.std.proofs.Common.{get_or, refl, sym}
use Rattle.aiger_text.specs.declared.gate.Gate.{Gate}
use Rattle.aiger_text.proofs.EndLaws.{own_default, unknown_more, unknown_here, wires_more}
use Rattle.aiger_text.proofs.wires.wires_of.Goals as goal

-- a gate that uses another variable
pub returns-in_default-clause-unknown : goal.returns-in_default-clause-unknown
returns-in_default-clause-unknown c =
    let gates = c.args.gates.now in
    let i = c.loop-gate.gate-index in
    let g : Gate = get_or gates i (record { line = 0; literal = 0; left = 0; right = 0 }) in (
      g.line,
      refl,
      unknown_here c.args.variables.now.keys gates i g _ c.loop-gate-test.true
          (own_default gates i (record { line = 0; literal = 0; left = 0; right = 0 }) c.loop-gate-test.true)
          (sym c.in_default.ensures) c.loop-gate.invariant.left,
    )

pub loop-gate-preserved : goal.loop-gate-preserved
loop-gate-preserved c =
    let gates = c.args.gates.now in
    let i = c.loop-gate.gate-index in
    let g : Gate = get_or gates i (record { line = 0; literal = 0; left = 0; right = 0 }) in
    let own = own_default gates i (record { line = 0; literal = 0; left = 0; right = 0 }) c.loop-gate-test.true in
    record {
      made =
          wires_more c.args.variables.now.keys gates i g c.in-Some.wire c.loop-gate.wires.items c.push.new.self.items
          c.loop-gate-test.true own (sym c.in-Some.ensures) c.in_ok-push.ensures.items c.loop-gate.invariant.made;
      left =
          unknown_more c.args.variables.now.keys gates i g c.in-Some.wire _ c.loop-gate-test.true own
          (sym c.in-Some.ensures) c.loop-gate.invariant.left;
    }
