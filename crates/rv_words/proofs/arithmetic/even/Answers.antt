use Rattle.std.proofs.Common.{◌∙◌}
use Rattle.fv_bits.specs.Bits.{joined}
use Rattle.wn_net.specs.Net.{value_at}
use Rattle.rv_words.proofs.WordLemmas.{even_is, word_below}
use Rattle.rv_words.proofs.arithmetic.even.Goals as goal

pub returns-clause-shows : goal.returns-clause-shows
returns-clause-shows c =
    let old = c.args.net.now in
    let upper = c.in_ok-upper.ensures in
    let word = c.in_ok-word.ensures in
    record {
      node = word.shows.node;
      value = λ g given.
          word.shows.value g (upper.adds.keeps.given g given)
          ∙ (λ i. joined 1 (upper.shows.value g given i) 0)
          ∙ even_is (value_at old g c.args.a)
          (word_below old g c.args.a c.width.ensures.whole given c.requires);
    }
