use Rattle.std.specs.Prelude.{bit_and}
use Rattle.std.proofs.Common.{◌∙◌}
use Rattle.fv_bits.specs.Bits.{bit}
use Rattle.rv_table.specs.Agree.{address_agrees, bytes_agree}
use Rattle.wn_net.proofs.Laws.{node_on, built_node}
use Rattle.rvfi_port.specs.Channels.{retire_at}
use Rattle.rv_words.proofs.BitLemmas.{both_is}
use Rattle.rv_rows.specs.Effects.{effect_at}
use Rattle.rv_rows.proofs.StepLemmas.{effect_on}
use Rattle.rv_circ.specs.Effects.{outcome_of}
use Rattle.rvfi_port.proofs.AddedNodes.{retire_on}
use Rattle.rv_circ.proofs.agree.memory_agrees.Goals as goal

pub returns-clause-shows : goal.returns-clause-shows
returns-clause-shows c =
    let old = c.args.net.now in
    let channel = c.args.channel.now in
    let outcome = outcome_of c.args.effect.now in
    let address = c.in_ok-address.ensures in
    let bytes = c.in_ok-bytes.ensures in
    let test = c.in_ok-test.ensures.built in
    let made = built_node _ _ _ _ _ _ test in
    record {
      node = (made.0, made.1 ∙ (node_on _ _ 1 c.in_ok-address.address bytes.adds address.shows.node).1);
      value = λ g given.
          let r = retire_at old g channel in
          let e = effect_at old g outcome in
          let r1 = retire_on _ _ g channel address.adds c.requires.channel in
          let e1 = effect_on _ _ g outcome address.adds c.requires.effect in
          let front = bytes.adds.keeps.values g c.in_ok-address.address address.shows.node.0
          ∙ address.shows.value g given in
          let behind = bytes.shows.value g (address.adds.keeps.given g given)
          ∙ (λ i. bit (bytes_agree (r1 i) (e1 i))) in
          test.value g
          ∙ (λ i. bit_and (front i) (behind i))
          ∙ both_is (address_agrees r e) (bytes_agree r e);
    }
