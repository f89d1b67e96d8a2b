use Rattle.std.specs.Prelude.{[], length, take}
use Rattle.std.proofs.Common.{arith, ap, subst, sym}
use Rattle.wn_net.specs.declared.node.Node.{Node}
use Rattle.wn_net.specs.Width.{IsFitting, widths}
use Rattle.wn_net.specs.Net.{shape_of, widths_of}
use Rattle.wn_net.specs.Changes.{Builds, width_in, value_in}
use Rattle.wn_net.proofs.Sweep.{length-widths}
use Rattle.bm_induct.specs.Stages.{IsPlain}
use Rattle.bm_induct.proofs.Items.{at_place, get_within, take_long}
use Rattle.bm_induct.proofs.Higher.{plain_moved}
use Rattle.bm_induct.proofs.Sweeps.{fits_at}
use Rattle.bm_induct.proofs.Begun.{next_fits, nodes_next}
use Rattle.bm_induct.proofs.Rest.{nodes_stand}
use Rattle.bm_induct.proofs.behind.put_nodes.Goals as goal

pub moved-copy-requires-clause-fits : goal.moved-copy-requires-clause-fits
moved-copy-requires-clause-fits c =
    let net = c.args.net.now in
    let i = c.loop-node.node-index in
    let x = c.node-item.result in
    let at = at_place c.nodes-node-items.result.now net.nodes i x x c.nodes-node-items.ensures.value (omega arith)
    c.node-item.is in
    let ws = widths (shape_of net) [] (take i net.nodes) in
    let long = length-widths (shape_of net) [] (take i net.nodes) in
    let taken = take_long net.nodes i x at in
    let below = get_within net.nodes i x at in (
      ws,
      fits_at (shape_of net) [] net.nodes i x c.nodes-node-items.ensures.whole.nodes at,
      omega (arith, long, taken, below, c.requires.long),
    )

pub put_node-requires-clause-plain : goal.put_node-requires-clause-plain
put_node-requires-clause-plain c =
    let P : Node → Type 0 = λ y. IsPlain y in
    subst P (sym c.moved-copy.ensures) (plain_moved c.args.how c.args.net.now c.node-item.result)

pub put_node-requires-clause-fits : goal.put_node-requires-clause-fits
put_node-requires-clause-fits c =
    let net = c.args.net.now in
    let i = c.loop-node.node-index in
    let x = c.node-item.result in
    let made = c.loop-node.made in
    let at = at_place c.nodes-node-items.result.now net.nodes i x x c.nodes-node-items.ensures.value (omega arith)
    c.node-item.is in
    let P : Node → Type 0 = λ y. IsFitting (shape_of made) (widths_of made) y in
    subst P (sym c.moved-copy.ensures)
    (next_fits c.args.how net made i x c.nodes-node-items.ensures.whole c.loop-node.invariant at)

pub loop-node-preserved : goal.loop-node-preserved
loop-node-preserved c =
    let net = c.args.net.now in
    let i = c.loop-node.node-index in
    let x = c.node-item.result in
    let made = c.loop-node.made in
    let new = c.put_node.new.net in
    let at = at_place c.nodes-node-items.result.now net.nodes i x x c.nodes-node-items.ensures.value (omega arith)
    c.node-item.is in
    let P : Node → Type 0 = λ y.
    Builds made new y (width_in made y) (λ g. value_in made g y) c.in_ok-put_node.field-0 in
    nodes_next c.args.how net made new i _ _ x _ c.loop-node.invariant at
    (subst P c.moved-copy.ensures c.in_ok-put_node.ensures.built)

pub returns-clause-stand : goal.returns-clause-stand
returns-clause-stand c =
    nodes_stand c.args.how c.args.net.now c.loop-node.made c.loop-node.node-index
    c.nodes-node-items.ensures.whole c.loop-node.invariant (omega (arith, ap length c.nodes-node-items.ensures.value))
