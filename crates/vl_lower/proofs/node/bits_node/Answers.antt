use Rattle.std.specs.Prelude.{◌≡◌, ◌-◌, suc}
use Rattle.std.proofs.Common.{arith}
use Rattle.vl_lower.proofs.RegistersJoining.{begun, more, regs_few}
use Rattle.vl_lower.proofs.node.bits_node.Goals as goal

pub loop-left-init : goal.loop-left-init
loop-left-init c =
    let one : c.args.width ≡ suc (c.args.width - 1) = omega (arith, c.requires.some) in
    begun c.args.net.now c.bit_node.new.net c.args.keep.now c.args.width (c.args.width - 1) c.in_ok-node.node one
    c.in_ok-node.ensures.adds c.in_ok-node.ensures.holds

pub bit_node-requires-in-loop-left-clause-room : goal.bit_node-requires-in-loop-left-clause-room
bit_node-requires-in-loop-left-clause-room c =
    let few =
    regs_few c.args.net.now c.loop-left.net c.args.keep.now c.args.width c.loop-left.left
    c.loop-left.invariant.widths in
    omega (arith, few, c.requires.few, c.requires.room)

pub loop-left-preserved : goal.loop-left-preserved
loop-left-preserved c =
    let one : c.loop-left.left ≡ suc (c.loop-left.left - 1) = omega (arith, c.loop-left-test.true) in
    more c.args.net.now c.loop-left.net c.bit_node-in-loop-left.new.net c.concat.new.self c.args.keep.now c.args.width
    c.loop-left.left (c.loop-left.left - 1) c.loop-left.node c.in_ok-bit.bit c.in_ok-node-2.node _ one
    c.loop-left.invariant c.in_ok-bit.ensures.adds c.in_ok-bit.ensures.holds c.in_ok-node-2.ensures.built
