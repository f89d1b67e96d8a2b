use Rattle.std.specs.Prelude.{bit_or, ◌==◌, ◌&&◌}
use Rattle.std.proofs.Common.{◌∙◌}
use Rattle.fv_bits.specs.Bits.{bit}
use Rattle.wn_net.proofs.Laws.{node_on, built_node}
use Rattle.rvfi_port.specs.Channels.{retire_at}
use Rattle.rv_words.proofs.BitLemmas.{either_is}
use Rattle.rv_rows.specs.Effects.{effect_at}
use Rattle.rv_circ.specs.Effects.{outcome_of}
use Rattle.rv_circ.proofs.agree.address_agrees.Goals as goal

pub returns-clause-shows : goal.returns-clause-shows
returns-clause-shows c =
    let old = c.args.net.now in
    let channel = c.args.channel.now in
    let outcome = outcome_of c.args.effect.now in
    let none = c.in_ok-none.ensures in
    let same = c.in_ok-same.ensures in
    let test = c.in_ok-test.ensures.built in
    let made = built_node _ _ _ _ _ _ test in
    record {
      node = (made.0, made.1 ∙ (node_on _ _ 1 c.in_ok-none.none same.adds none.shows.node).1);
      value = λ g given.
          let r = retire_at old g channel in
          let e = effect_at old g outcome in
          let front = same.adds.keeps.values g c.in_ok-none.none none.shows.node.0 ∙ none.shows.value g given in
          let behind = same.shows.value g (none.adds.keeps.given g given)
          ∙ (λ i. bit (none.adds.keeps.values g channel.mem_addr c.requires.channel.mem_addr.0 i
          == none.adds.keeps.values g outcome.mem_addr c.requires.effect.mem_addr.0 i)) in
          test.value g
          ∙ (λ i. bit_or (front i) (behind i))
          ∙ either_is (e.rmask == 0 && e.wmask == 0) (r.mem_addr == e.mem_addr);
    }
