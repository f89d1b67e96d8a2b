use Rattle.std.specs.Prelude.{◌<◌, Some, false, length}
use Rattle.std.proofs.Common.{ap, ◌∙◌, arith}
use Rattle.std.proofs.lemmas.Option.{slice_get-get_or}
use Rattle.fv_graph.proofs.Lists.{get_less}
use Rattle.wn_opt.proofs.Before.{operands_before}
use Rattle.wn_opt.proofs.Sharing.{shared_none}
use Rattle.wn_opt.proofs.share.share_next.Goals as goal

pub share_node-requires-clause-marked : goal.share_node-requires-clause-marked
share_node-requires-clause-marked c =
    let k = length c.args.places.now in
    let there = get_less c.args.net.now.nodes k c.args.node.now c.requires.at in
    let less : k < length c.args.marks.now = omega (arith, there, c.requires.each) in
    slice_get-get_or c.args.marks.now k false less ∙ ap Some c.if-marks-places.true

pub share_node-requires-clause-operands : goal.share_node-requires-clause-operands
share_node-requires-clause-operands c =
    let k = length c.args.places.now in
    let there = get_less c.args.net.now.nodes k c.args.node.now c.requires.at in
    let less : k < length c.args.marks.now = omega (arith, there, c.requires.each) in
    let on = slice_get-get_or c.args.marks.now k false less ∙ ap Some c.if-marks-places.true in
    λ a i.
    c.requires.shared.places.placed a
    (operands_before c.args.net.now k c.args.node.now c.requires.whole c.requires.at a i)
    (c.requires.closed k a c.args.node.now on c.requires.at i)

pub returns : goal.returns
returns c =
    let k = length c.args.places.now in
    let there = get_less c.args.net.now.nodes k c.args.node.now c.requires.at in
    let less : k < length c.args.marks.now = omega (arith, there, c.requires.each) in
    shared_none c.args.net.now c.args.hashed.now c.args.marks.now c.args.places.now c.requires.shared
    (slice_get-get_or c.args.marks.now k false less ∙ ap Some c.if-marks-places.false)
