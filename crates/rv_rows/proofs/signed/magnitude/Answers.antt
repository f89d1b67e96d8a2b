use Rattle.std.specs.Prelude.{◌==◌, if◌then◌else◌}
use Rattle.std.proofs.Common.{◌∙◌}
use Rattle.rv_table.specs.Arithmetic.{difference}
use Rattle.wn_net.specs.Net.{value_at}
use Rattle.rv_words.proofs.WordLemmas.{word_below}
use Rattle.rv_rows.proofs.SignedLemmas.{magnitude_is}
use Rattle.rv_rows.proofs.signed.magnitude.Goals as goal

pub returns-clause-shows : goal.returns-clause-shows
returns-clause-shows c =
    let old = c.args.net.now in
    let a = c.args.a in
    let negative = c.in_ok-negative.ensures in
    let word = c.in_ok-word.ensures in
    record {
      node = word.shows.node;
      value = λ g given.
          let same = negative.adds.keeps.values g a c.requires.0 in
          word.shows.value g (negative.adds.keeps.given g given)
          ∙ (λ i. if negative.shows.value g given i == 1 then difference 0 (same i) else same i)
          ∙ magnitude_is (value_at old g a) (word_below old g a c.width.ensures.whole given c.requires);
    }
