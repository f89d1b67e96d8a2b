use Rattle.std.proofs.Common.{◌∙◌}
use Rattle.fv_bits.specs.Bits.{shifted_left}
use Rattle.wn_net.specs.Net.{value_at}
use Rattle.wn_net.proofs.Laws.{built_node}
use Rattle.wn_net.proofs.Moved.{value_within}
use Rattle.rv_zb.proofs.NodeLemmas.{alone_is}
use Rattle.rv_zb.proofs.nodes.bit_alone.Goals as goal

pub returns-clause-shows : goal.returns-clause-shows
returns-clause-shows c =
    let old = c.args.net.now in
    let index = c.args.index in
    let one = c.in_ok-one.ensures in
    let alone = c.in_ok-alone.ensures.built in
    let made = built_node _ _ _ _ _ _ alone in
    record {
      node = (made.0, made.1 ∙ one.shows.node.1);
      value = λ g given.
          alone.value g
          ∙ (λ i. shifted_left (one.shows.node.1 i) (one.shows.value g given i)
          (one.adds.keeps.values g index c.requires.0 i))
          ∙ alone_is (value_at old g index) (value_within old g 5 index c.width.ensures.whole given c.requires);
    }
