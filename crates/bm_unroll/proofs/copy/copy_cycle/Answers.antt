use Rattle.std.specs.Prelude.{◌+◌, ◌<◌, ℕ, List, length, drop}
use Rattle.std.proofs.Common.{sym, subst, arith}
use Rattle.wn_net.specs.declared.node.Node.{Node}
use Rattle.bm_unroll.specs.Cycle.{IsCopyable, Copies}
use Rattle.bm_unroll.proofs.Copying.{Copying, copyable_here, copying_next, front}
use Rattle.bm_unroll.proofs.copy.copy_cycle.Goals as goal

pub copy_node-requires : goal.copy_node-requires
copy_node-requires c =
    let net = c.args.net.now in
    let i = c.loop-node.node-index in
    let x = c.node-item.result in
    let below : i < length c.nodes-node-items.result.now = omega arith in
    let P : List Node → Type 0 = λ left. Copying c.args.frames.now c.loop-node.frames net c.args.inputs.now
    c.args.state.now c.loop-node.table.items left in
    let Q : List ℕ → Type 0 = λ t. IsCopyable c.loop-node.frames c.args.inputs.now c.args.state.now t x in
    subst Q (sym c.as_slice.ensures.value)
    (copyable_here c.args.frames.now c.loop-node.frames net c.args.inputs.now c.args.state.now c.loop-node.table.items x
    (drop (i + 1) net.nodes) c.requires
    (subst P (front net.nodes c.nodes-node-items.result.now i x c.nodes-node-items.ensures.value below c.node-item.is)
    c.loop-node.invariant))

pub loop-node-preserved : goal.loop-node-preserved
loop-node-preserved c =
    let net = c.args.net.now in
    let i = c.loop-node.node-index in
    let x = c.node-item.result in
    let below : i < length c.nodes-node-items.result.now = omega arith in
    let P : List Node → Type 0 = λ left. Copying c.args.frames.now c.loop-node.frames net c.args.inputs.now
    c.args.state.now c.loop-node.table.items left in
    let Q : List ℕ → Type 0 = λ t. Copies c.loop-node.frames c.copy_node.new.frames c.args.inputs.now
    c.args.state.now t
    x c.in_ok-id.id in
    copying_next c.args.frames.now c.loop-node.frames c.copy_node.new.frames net c.args.inputs.now c.args.state.now
    c.loop-node.table.items c.push.new.self.items x (drop (i + 1) net.nodes) c.in_ok-id.id c.requires
    (subst P (front net.nodes c.nodes-node-items.result.now i x c.nodes-node-items.ensures.value below c.node-item.is)
    c.loop-node.invariant)
    c.in_ok-id.ensures.adds (subst Q c.as_slice.ensures.value c.in_ok-id.ensures.copies) c.in_ok-push.ensures.items
