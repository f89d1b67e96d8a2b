use Rattle.std.proofs.Common.{◌∙◌}
use Rattle.fv_bits.specs.Bits.{joined}
use Rattle.wn_net.specs.Net.{value_at}
use Rattle.rv_words.proofs.JoinLemmas.{u_immediate_is}
use Rattle.rv_words.proofs.immediates.u_immediate.Goals as goal

pub returns-clause-shows : goal.returns-clause-shows
returns-clause-shows c =
    let bits = c.in_ok-bits.ensures in
    let immediate = c.in_ok-immediate.ensures in
    record {
      node = immediate.shows.node;
      value = λ g given.
          immediate.shows.value g (bits.adds.keeps.given g given)
          ∙ (λ i. joined 12 (bits.shows.value g given i) 0)
          ∙ u_immediate_is (value_at c.args.net.now g c.args.word);
    }
