use Rattle.std.specs.Prelude.{bit_and}
use Rattle.std.proofs.Common.{◌∙◌}
use Rattle.fv_bits.specs.Bits.{complement}
use Rattle.wn_net.proofs.Laws.{adds_on, node_on, built_node}
use Rattle.rv_zb.proofs.nodes.cleared.Goals as goal

pub returns-clause-shows : goal.returns-clause-shows
returns-clause-shows c =
    let word = c.args.word in
    let alone = c.in_ok-alone.ensures in
    let others = c.in_ok-others.ensures.built in
    let cleared = c.in_ok-cleared.ensures.built in
    let to2 = adds_on _ _ _ alone.adds others.adds in
    let made = built_node _ _ _ _ _ _ cleared in
    let there = node_on _ _ 32 word to2 c.requires.word in
    record {
      node = (made.0, made.1 ∙ there.1);
      value = λ g given.
          let turned = others.value g ∙ (λ i. complement (alone.shows.node.1 i) (alone.shows.value g given i)) in
          cleared.value g ∙ (λ i. bit_and (to2.keeps.values g word c.requires.word.0 i) (turned i));
    }
