use Rattle.std.specs.Prelude.{bit_or, not}
use Rattle.std.proofs.Common.{◌∙◌}
use Rattle.fv_bits.specs.Bits.{bit, complement}
use Rattle.rv_table.specs.Agree.{has, keeps}
use Rattle.wn_net.proofs.Laws.{adds_on, node_on, built_node}
use Rattle.rvfi_port.specs.Channels.{retire_at}
use Rattle.rv_words.proofs.BitLemmas.{not_bit, either_is}
use Rattle.rvfi_port.proofs.AddedNodes.{retire_on}
use Rattle.rv_circ.proofs.byte.is_left.Goals as goal

pub returns-clause-shows : goal.returns-clause-shows
returns-clause-shows c =
    let old = c.args.net.now in
    let channel = c.args.channel.now in
    let k = c.args.index in
    let own = c.requires.channel in
    let written = c.in_ok-written.ensures in
    let unwritten = c.in_ok-unwritten.ensures.built in
    let kept = c.in_ok-kept.ensures in
    let test = c.in_ok-test.ensures.built in
    let to2 = adds_on _ _ _ written.adds unwritten.adds in
    let made = built_node _ _ _ _ _ _ test in
    let turned = built_node _ _ _ _ _ _ unwritten in
    let wide = unwritten.width ∙ written.shows.node.1 in
    record {
      node = (made.0, made.1 ∙ (node_on _ _ 1 c.in_ok-unwritten.unwritten kept.adds (turned.0, wide)).1);
      value = λ g given.
          let r = retire_at old g channel in
          let r2 = retire_on _ _ g channel to2 own in
          let front = kept.adds.keeps.values g c.in_ok-unwritten.unwritten turned.0 ∙ unwritten.value g
          ∙ (λ i. complement (written.shows.node.1 i) (written.shows.value g given i)) ∙ not_bit (has r.mem_wmask k) in
          let behind = kept.shows.value g (to2.keeps.given g given) ∙ (λ i. bit (keeps (r2 i) k)) in
          test.value g
          ∙ (λ i. bit_or (front i) (behind i))
          ∙ either_is (not (has r.mem_wmask k)) (keeps r k);
    }
