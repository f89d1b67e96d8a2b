use Rattle.std.specs.Prelude.{bit_xor}
use Rattle.std.proofs.Common.{◌∙◌}
use Rattle.wn_net.proofs.Laws.{node_on, built_node}
use Rattle.rv_zb.proofs.nodes.inverted.Goals as goal

pub returns-clause-shows : goal.returns-clause-shows
returns-clause-shows c =
    let word = c.args.word in
    let alone = c.in_ok-alone.ensures in
    let built = c.in_ok-inverted.ensures.built in
    let made = built_node _ _ _ _ _ _ built in
    let there = node_on _ _ 32 word alone.adds c.requires.word in
    record {
      node = (made.0, made.1 ∙ there.1);
      value = λ g given.
          built.value g
          ∙ (λ i. bit_xor (alone.adds.keeps.values g word c.requires.word.0 i) (alone.shows.value g given i));
    }
