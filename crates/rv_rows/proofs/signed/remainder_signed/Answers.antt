use Rattle.std.specs.Prelude.{◌==◌, if◌then◌else◌, unsigned_abs}
use Rattle.std.proofs.Common.{◌∙◌}
use Rattle.rv_table.specs.Arithmetic.{difference, remainder, signed}
use Rattle.wn_net.specs.Net.{value_at}
use Rattle.rv_words.proofs.WordLemmas.{word_below}
use Rattle.rv_rows.proofs.SignedLemmas.{remainder_signed_is}
use Rattle.rv_rows.proofs.signed.remainder_signed.Goals as goal

pub returns-clause-shows : goal.returns-clause-shows
returns-clause-shows c =
    let old = c.args.net.now in
    let whole = c.width.ensures.whole in
    let a = c.args.a in
    let b = c.args.b in
    let below = c.in_ok-below.ensures in
    let magnitude = c.in_ok-magnitude.ensures in
    let word = c.in_ok-word.ensures in
    record {
      node = word.shows.node;
      value = λ g given.
          let given1 = below.adds.keeps.given g given in
          let test = magnitude.adds.keeps.values g c.in_ok-below.below below.shows.node.0
          ∙ below.shows.value g given in
          let size = magnitude.shows.value g given1
          ∙ (λ i. remainder (unsigned_abs (signed (below.adds.keeps.values g a c.requires.left.0 i)))
          (unsigned_abs (signed (below.adds.keeps.values g b c.requires.right.0 i)))) in
          word.shows.value g (magnitude.adds.keeps.given g given1)
          ∙ (λ i. if test i == 1 then difference 0 (size i) else size i)
          ∙ remainder_signed_is (value_at old g a) (value_at old g b)
          (word_below old g a whole given c.requires.left) (word_below old g b whole given c.requires.right);
    }
