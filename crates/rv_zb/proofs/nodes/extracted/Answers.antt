use Rattle.std.proofs.Common.{◌∙◌}
use Rattle.fv_bits.specs.Bits.{part}
use Rattle.wn_net.specs.Net.{value_at}
use Rattle.wn_net.proofs.Laws.{given_on}
use Rattle.rv_zb.proofs.NodeLemmas.{extracted_is}
use Rattle.rv_zb.proofs.nodes.extracted.Goals as goal

pub returns-clause-shows : goal.returns-clause-shows
returns-clause-shows c =
    let old = c.args.net.now in
    let moved = c.in_ok-moved.ensures.built in
    let lowest = c.in_ok-lowest.ensures.built in
    let extracted = c.in_ok-extracted.ensures in
    record {
      node = extracted.shows.node;
      value = λ g given.
          extracted.shows.value g (given_on _ _ g lowest.adds (given_on _ _ g moved.adds given))
          ∙ lowest.value g
          ∙ (λ i. part 0 1 (moved.value g i))
          ∙ extracted_is (value_at old g c.args.word) (value_at old g c.args.index);
    }
