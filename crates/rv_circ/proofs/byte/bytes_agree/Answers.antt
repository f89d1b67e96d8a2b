use Rattle.std.specs.Prelude.{bit_and, ◌&&◌}
use Rattle.std.proofs.Common.{◌∙◌}
use Rattle.fv_bits.specs.Bits.{bit}
use Rattle.rv_table.specs.Agree.{byte_agrees}
use Rattle.wn_net.proofs.Laws.{adds_on}
use Rattle.rvfi_port.specs.Channels.{retire_at}
use Rattle.rv_words.proofs.BitLemmas.{both_is}
use Rattle.rv_rows.specs.Effects.{effect_at}
use Rattle.rv_rows.proofs.StepLemmas.{effect_on}
use Rattle.rv_circ.specs.Effects.{outcome_of}
use Rattle.rvfi_port.proofs.AddedNodes.{retire_on}
use Rattle.rv_circ.proofs.byte.bytes_agree.Goals as goal

pub returns-clause-shows : goal.returns-clause-shows
returns-clause-shows c =
    let old = c.args.net.now in
    let channel = c.args.channel.now in
    let outcome = outcome_of c.args.effect.now in
    let own = c.requires.channel in
    let have = c.requires.effect in
    let last = c.in_ok-last.ensures in
    let two = c.in_ok-two.ensures in
    let three = c.in_ok-three.ensures in
    let all = c.in_ok-all.ensures in
    let to2 = adds_on _ _ _ last.adds two.adds in
    let to3 = adds_on _ _ _ to2 three.adds in
    record {
      node = all.shows.node;
      value = λ g given.
          let given1 = last.adds.keeps.given g given in
          let given2 = two.adds.keeps.given g given1 in
          let given3 = three.adds.keeps.given g given2 in
          let r = retire_at old g channel in
          let e = effect_at old g outcome in
          let r1 = retire_on _ _ g channel last.adds own in
          let e1 = effect_on _ _ g outcome last.adds have in
          let r2 = retire_on _ _ g channel to2 own in
          let e2 = effect_on _ _ g outcome to2 have in
          let r3 = retire_on _ _ g channel to3 own in
          let e3 = effect_on _ _ g outcome to3 have in
          let behind2 = two.shows.value g given1
          ∙ (λ i. bit_and (bit (byte_agrees (r1 i) (e1 i) 2)) (last.shows.value g given i))
          ∙ both_is (byte_agrees r e 2) (byte_agrees r e 3) in
          let behind1 = three.shows.value g given2
          ∙ (λ i. bit_and (bit (byte_agrees (r2 i) (e2 i) 1)) (behind2 i))
          ∙ both_is (byte_agrees r e 1) (byte_agrees r e 2 && byte_agrees r e 3) in
          all.shows.value g given3
          ∙ (λ i. bit_and (bit (byte_agrees (r3 i) (e3 i) 0)) (behind1 i))
          ∙ both_is (byte_agrees r e 0) (byte_agrees r e 1 && (byte_agrees r e 2 && byte_agrees r e 3));
    }
