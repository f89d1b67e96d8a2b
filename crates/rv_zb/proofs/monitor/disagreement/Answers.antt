use Rattle.std.specs.Prelude.{bit_and, not}
use Rattle.std.proofs.Common.{◌∙◌}
use Rattle.fv_bits.specs.Bits.{bit, complement}
use Rattle.rv_table.specs.Agree.{agrees}
use Rattle.wn_net.proofs.Laws.{adds_on, node_on, given_on, value_on, built_node}
use Rattle.rvfi_port.specs.Channels.{retire_at}
use Rattle.rvfi_port.proofs.AddedNodes.{channel_on, retire_on}
use Rattle.rv_words.proofs.BitLemmas.{both_is, not_bit}
use Rattle.rv_zb.specs.Rows.{zb_matches}
use Rattle.rv_zb.specs.Effect.{zb_effect}
use Rattle.rv_zb.proofs.monitor.disagreement.Goals as goal

pub returns-clause-shows : goal.returns-clause-shows
returns-clause-shows c =
    let old = c.args.net.now in
    let channel = c.args.channel.now in
    let row = c.args.row in
    let effect = c.in_ok-effect.ensures in
    let alike = c.in_ok-agrees.ensures in
    let differs = c.in_ok-differs.ensures.built in
    let test = c.in_ok-test.ensures.built in
    let behind = adds_on _ _ _ alike.adds differs.adds in
    let made = built_node _ _ _ _ _ _ test in
    let there = node_on _ _ 1 c.in_ok-effect.effect.hit behind effect.hit.node in
    record {
      node = (made.0, made.1 ∙ there.1);
      value = λ g given.
          let r = retire_at old g channel in
          let given1 = given_on _ _ g effect.adds given in
          let hit = value_on _ _ g c.in_ok-effect.effect.hit behind effect.hit.node.0 ∙ effect.hit.value g given in
          let agreed = alike.shows.value g given1
          ∙ (λ i. bit (agrees (retire_on _ _ g channel effect.adds c.requires i) (effect.effect.value g given i))) in
          let turned = differs.value g
          ∙ (λ i. complement (alike.shows.node.1 i) (agreed i))
          ∙ not_bit (agrees r (zb_effect row r)) in
          test.value g
          ∙ (λ i. bit_and (hit i) (turned i))
          ∙ both_is (zb_matches row r.insn) (not (agrees r (zb_effect row r)));
    }

pub agreement-requires-clause-channel : goal.agreement-requires-clause-channel
agreement-requires-clause-channel c =
    channel_on c.args.net.now c.zb_circuit.new.net c.args.channel.now c.in_ok-effect.ensures.adds c.requires
