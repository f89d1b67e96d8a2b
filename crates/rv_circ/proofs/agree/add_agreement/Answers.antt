use Rattle.std.specs.Prelude.{bit_and, ◌&&◌, ◌||◌}
use Rattle.std.proofs.Common.{◌∙◌}
use Rattle.fv_bits.specs.Bits.{bit}
use Rattle.rv_table.specs.Agree.{agrees, source_agrees, same, results_agree}
use Rattle.wn_net.proofs.Laws.{adds_on, built_node}
use Rattle.rvfi_port.specs.Channels.{retire_at}
use Rattle.rv_words.proofs.BitLemmas.{both_is}
use Rattle.rv_rows.specs.Effects.{effect_at}
use Rattle.rv_rows.proofs.StepLemmas.{effect_on}
use Rattle.rv_circ.specs.Effects.{outcome_of}
use Rattle.rvfi_port.proofs.AddedNodes.{retire_on}
use Rattle.rv_circ.proofs.agree.add_agreement.Goals as goal

pub returns-clause-shows : goal.returns-clause-shows
unfolding agrees
returns-clause-shows c =
    let old = c.args.net.now in
    let channel = c.args.channel.now in
    let wanted = outcome_of c.args.effect.now in
    let own = c.requires.channel in
    let have = c.requires.effect in
    let outcome = c.in_ok-outcome.ensures in
    let second = c.in_ok-second.ensures in
    let behind = c.in_ok-behind.ensures.built in
    let first = c.in_ok-first.ensures in
    let test = c.in_ok-test.ensures.built in
    let to2 = adds_on _ _ _ outcome.adds second.adds in
    let to3 = adds_on _ _ _ to2 behind.adds in
    let made = built_node _ _ _ _ _ _ test in
    record {
      node = (made.0, made.1 ∙ first.shows.node.1);
      value = λ g given.
          let given1 = outcome.adds.keeps.given g given in
          let given3 = behind.adds.keeps.given g (second.adds.keeps.given g given1) in
          let r = retire_at old g channel in
          let e = effect_at old g wanted in
          let r1 = retire_on _ _ g channel outcome.adds own in
          let e1 = effect_on _ _ g wanted outcome.adds have in
          let r3 = retire_on _ _ g channel to3 own in
          let e3 = effect_on _ _ g wanted to3 have in
          let rest = same r.trap e.trap && (e.trap || results_agree r e) in
          let sources = source_agrees e.rs2_addr r.rs2_addr r.rs2_rdata in
          let of_rs2 = second.shows.value g given1
          ∙ (λ i. bit (source_agrees (e1 i).rs2_addr (r1 i).rs2_addr (r1 i).rs2_rdata)) in
          let of_outcome = second.adds.keeps.values g c.in_ok-outcome.outcome outcome.shows.node.0
          ∙ outcome.shows.value g given in
          let both = first.adds.keeps.values g c.in_ok-behind.behind (built_node _ _ _ _ _ _ behind).0
          ∙ behind.value g ∙ (λ i. bit_and (of_rs2 i) (of_outcome i)) ∙ both_is sources rest in
          let of_rs1 = first.shows.value g given3
          ∙ (λ i. bit (source_agrees (e3 i).rs1_addr (r3 i).rs1_addr (r3 i).rs1_rdata)) in
          test.value g
          ∙ (λ i. bit_and (of_rs1 i) (both i))
          ∙ both_is (source_agrees e.rs1_addr r.rs1_addr r.rs1_rdata) (sources && rest);
    }
