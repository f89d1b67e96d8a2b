use Rattle.std.specs.Prelude.{bit_or, not}
use Rattle.std.proofs.Common.{◌∙◌}
use Rattle.fv_bits.specs.Bits.{bit, complement}
use Rattle.rv_table.specs.Agree.{has}
use Rattle.wn_net.specs.Net.{value_at}
use Rattle.wn_net.proofs.Laws.{adds_on, node_on, built_node}
use Rattle.rv_words.proofs.BitLemmas.{not_bit, either_is}
use Rattle.rv_circ.proofs.byte.read_agrees.Goals as goal

pub returns-clause-shows : goal.returns-clause-shows
returns-clause-shows c =
    let old = c.args.net.now in
    let mask = c.args.channel.now.mem_rmask in
    let k = c.args.index in
    let wanted = c.in_ok-wanted.ensures in
    let unwanted = c.in_ok-unwanted.ensures.built in
    let read = c.in_ok-read.ensures in
    let test = c.in_ok-test.ensures.built in
    let to2 = adds_on _ _ _ wanted.adds unwanted.adds in
    let made = built_node _ _ _ _ _ _ test in
    let turned = built_node _ _ _ _ _ _ unwanted in
    let wide = unwanted.width ∙ wanted.shows.node.1 in
    record {
      node = (made.0, made.1 ∙ (node_on _ _ 1 c.in_ok-unwanted.unwanted read.adds (turned.0, wide)).1);
      value = λ g given.
          let front = read.adds.keeps.values g c.in_ok-unwanted.unwanted turned.0 ∙ unwanted.value g
          ∙ (λ i. complement (wanted.shows.node.1 i) (wanted.shows.value g given i))
          ∙ not_bit (has (value_at old g c.args.effect.now.rmask) k) in
          let behind = read.shows.value g (to2.keeps.given g given)
          ∙ (λ i. bit (has (to2.keeps.values g mask c.requires.channel.mem_rmask.0 i) k)) in
          test.value g
          ∙ (λ i. bit_or (front i) (behind i))
          ∙ either_is (not (has (value_at old g c.args.effect.now.rmask) k)) (has (value_at old g mask) k);
    }
