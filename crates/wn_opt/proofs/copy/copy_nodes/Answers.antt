use Rattle.std.proofs.Common.{refl}
use Rattle.wn_opt.proofs.Begun.{item_at}
use Rattle.wn_opt.proofs.Copying.{adds_on}
use Rattle.wn_opt.proofs.Framing.{front_on}
use Rattle.wn_opt.proofs.copy.copy_nodes.Goals as goal

pub copy_next-requires-clause-front : goal.copy_next-requires-clause-front
copy_next-requires-clause-front c =
    front_on c.args.net.now c.args.part.now c.loop-index.part c.requires.front c.loop-index.invariant.adds

pub copy_next-requires-clause-at : goal.copy_next-requires-clause-at
copy_next-requires-clause-at c =
    item_at c.args.net.now.nodes c.nodes-node-items.result.now c.loop-index.index c.loop-index.index c.node-item.result
    c.node-item.result c.nodes-node-items.ensures.value refl c.loop-index-test.true c.node-item.is

pub loop-index-preserved : goal.loop-index-preserved
loop-index-preserved c =
    let was = c.loop-index.invariant in
    let now = c.in_ok-copy_next.ensures in
    record {
      adds = adds_on c.args.part.now c.loop-index.part c.copy_next.new.part was.adds now.adds;
      copied = now.copied;
      all = now.all;
      kept = λ id at p. now.kept id at (was.kept id at p);
    }
