use Rattle.std.specs.Prelude.{bit_and, bit_or, ◌||◌}
use Rattle.std.proofs.Common.{◌∙◌}
use Rattle.fv_bits.specs.Bits.{bit}
use Rattle.rv_table.specs.Agree.{same, results_agree}
use Rattle.wn_net.specs.Net.{value_at}
use Rattle.wn_net.proofs.Laws.{adds_on, node_on, built_node}
use Rattle.wn_net.proofs.Moved.{value_within}
use Rattle.rvfi_port.specs.Channels.{retire_at}
use Rattle.rv_words.proofs.BitLemmas.{both_is, either_is}
use Rattle.rv_rows.specs.Effects.{effect_at}
use Rattle.rv_rows.proofs.StepLemmas.{effect_on}
use Rattle.rv_circ.specs.Effects.{outcome_of}
use Rattle.rvfi_port.proofs.AddedNodes.{retire_on}
use Rattle.rv_circ.proofs.TestLemmas.{told}
use Rattle.rv_circ.proofs.agree.outcome_agrees.Goals as goal

pub returns-clause-shows : goal.returns-clause-shows
returns-clause-shows c =
    let old = c.args.net.now in
    let channel = c.args.channel.now in
    let outcome = outcome_of c.args.effect.now in
    let own = c.requires.channel in
    let have = c.requires.effect in
    let alike = c.in_ok-same.ensures in
    let results = c.in_ok-results.ensures in
    let rest = c.in_ok-rest.ensures.built in
    let test = c.in_ok-test.ensures.built in
    let to2 = adds_on _ _ _ alike.adds results.adds in
    let behind = adds_on _ _ _ results.adds rest.adds in
    let made = built_node _ _ _ _ _ _ test in
    record {
      node = (made.0, made.1 ∙ (node_on _ _ 1 c.in_ok-same.same behind alike.shows.node).1);
      value = λ g given.
          let r = retire_at old g channel in
          let e = effect_at old g outcome in
          let r1 = retire_on _ _ g channel alike.adds own in
          let e1 = effect_on _ _ g outcome alike.adds have in
          let trap = to2.keeps.values g outcome.trap have.trap.0
          ∙ told (value_at old g outcome.trap)
          (value_within old g 1 outcome.trap c.width.ensures.whole given have.trap) in
          let found = results.shows.value g (alike.adds.keeps.given g given)
          ∙ (λ i. bit (results_agree (r1 i) (e1 i))) in
          let either = rest.value g ∙ (λ i. bit_or (trap i) (found i)) ∙ either_is e.trap (results_agree r e) in
          let first = behind.keeps.values g c.in_ok-same.same alike.shows.node.0 ∙ alike.shows.value g given in
          test.value g
          ∙ (λ i. bit_and (first i) (either i))
          ∙ both_is (same r.trap e.trap) (e.trap || results_agree r e);
    }
