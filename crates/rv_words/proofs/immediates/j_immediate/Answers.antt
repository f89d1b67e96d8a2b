use Rattle.std.proofs.Common.{◌∙◌}
use Rattle.fv_bits.specs.Bits.{joined}
use Rattle.rv_table.specs.Fields.{sign_extended}
use Rattle.wn_net.specs.Net.{value_at}
use Rattle.rv_words.proofs.JoinLemmas.{j_immediate_is}
use Rattle.rv_words.proofs.immediates.j_immediate.Goals as goal

pub returns-clause-shows : goal.returns-clause-shows
returns-clause-shows c =
    let bits = c.in_ok-bits.ensures in
    let offset = c.in_ok-offset.ensures in
    let immediate = c.in_ok-immediate.ensures in
    record {
      node = immediate.shows.node;
      value = λ g given.
          let given1 = bits.adds.keeps.given g given in
          let given2 = offset.adds.keeps.given g given1 in
          let raised = offset.shows.value g given1 ∙ (λ i. joined 1 (bits.shows.value g given i) 0) in
          immediate.shows.value g given2
          ∙ (λ i. sign_extended 21 (raised i))
          ∙ j_immediate_is (value_at c.args.net.now g c.args.word);
    }
