use Rattle.std.specs.Prelude.{◌<◌, Some, false, length}
use Rattle.std.proofs.Common.{ap, ◌∙◌, arith}
use Rattle.std.proofs.lemmas.Option.{slice_get-get_or}
use Rattle.fv_graph.proofs.Lists.{get_less}
use Rattle.wn_opt.proofs.Before.{operands_before}
use Rattle.wn_opt.proofs.Narrowing.{narrowed_none}
use Rattle.wn_opt.proofs.narrow.narrow_next.Goals as goal

pub narrow_node-requires-clause-marked : goal.narrow_node-requires-clause-marked
narrow_node-requires-clause-marked c =
    let k = length c.args.places.now in
    let there = get_less c.args.net.now.nodes k c.args.node.now c.requires.at in
    let less : k < length c.args.marks.now = omega (arith, there, c.requires.each) in
    slice_get-get_or c.args.marks.now k false less ∙ ap Some c.if-marks-places.true

pub narrow_node-requires-clause-operands : goal.narrow_node-requires-clause-operands
narrow_node-requires-clause-operands c =
    let k = length c.args.places.now in
    let there = get_less c.args.net.now.nodes k c.args.node.now c.requires.at in
    let less : k < length c.args.marks.now = omega (arith, there, c.requires.each) in
    let on = slice_get-get_or c.args.marks.now k false less ∙ ap Some c.if-marks-places.true in
    λ a i.
    c.requires.narrowed.places.placed a
    (operands_before c.args.net.now k c.args.node.now c.requires.whole c.requires.at a i)
    (c.requires.closed k a c.args.node.now on c.requires.at i)

pub returns : goal.returns
returns c =
    let k = length c.args.places.now in
    let there = get_less c.args.net.now.nodes k c.args.node.now c.requires.at in
    let less : k < length c.args.marks.now = omega (arith, there, c.requires.each) in
    narrowed_none c.args.net.now c.args.part.now c.args.marks.now c.args.inputs.now.items c.args.places.now
    c.requires.whole c.requires.narrowed
    (slice_get-get_or c.args.marks.now k false less ∙ ap Some c.if-marks-places.false)
