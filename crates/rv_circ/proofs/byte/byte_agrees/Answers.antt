use Rattle.std.specs.Prelude.{bit_and, not, ◌||◌}
use Rattle.std.proofs.Common.{◌∙◌}
use Rattle.fv_bits.specs.Bits.{bit}
use Rattle.rv_table.specs.Agree.{has, written_agrees}
use Rattle.wn_net.proofs.Laws.{node_on, built_node}
use Rattle.rvfi_port.specs.Channels.{retire_at}
use Rattle.rv_words.proofs.BitLemmas.{both_is}
use Rattle.rv_rows.specs.Effects.{effect_at}
use Rattle.rv_rows.proofs.StepLemmas.{effect_on}
use Rattle.rv_circ.specs.Effects.{outcome_of}
use Rattle.rvfi_port.proofs.AddedNodes.{retire_on}
use Rattle.rv_circ.proofs.byte.byte_agrees.Goals as goal

pub returns-clause-shows : goal.returns-clause-shows
returns-clause-shows c =
    let old = c.args.net.now in
    let channel = c.args.channel.now in
    let outcome = outcome_of c.args.effect.now in
    let k = c.args.index in
    let written = c.in_ok-written.ensures in
    let read = c.in_ok-read.ensures in
    let test = c.in_ok-test.ensures.built in
    let made = built_node _ _ _ _ _ _ test in
    record {
      node = (made.0, made.1 ∙ (node_on _ _ 1 c.in_ok-written.written read.adds written.shows.node).1);
      value = λ g given.
          let r = retire_at old g channel in
          let e = effect_at old g outcome in
          let r1 = retire_on _ _ g channel written.adds c.requires.channel in
          let e1 = effect_on _ _ g outcome written.adds c.requires.effect in
          let front = read.adds.keeps.values g c.in_ok-written.written written.shows.node.0
          ∙ written.shows.value g given in
          let behind = read.shows.value g (written.adds.keeps.given g given)
          ∙ (λ i. bit (not (has (e1 i).rmask k) || has (r1 i).mem_rmask k)) in
          test.value g
          ∙ (λ i. bit_and (front i) (behind i))
          ∙ both_is (written_agrees r e k) (not (has e.rmask k) || has r.mem_rmask k);
    }
