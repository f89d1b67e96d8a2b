use Rattle.std.specs.Prelude.{if◌then◌else◌}
use Rattle.std.proofs.Common.{◌∙◌}
use Rattle.fv_bits.specs.Bits.{is_negative}
use Rattle.rv_table.specs.Arithmetic.{difference}
use Rattle.wn_net.specs.Net.{value_at}
use Rattle.rv_words.proofs.ProductLemmas.{mixed_is}
use Rattle.rv_words.proofs.WordLemmas.{word_below}
use Rattle.rv_words.proofs.products.upper_product_mixed.Goals as goal

pub returns-clause-shows : goal.returns-clause-shows
returns-clause-shows c =
    let old = c.args.net.now in
    let a = c.args.a in
    let b = c.args.b in
    let own_a = c.requires.left in
    let own_b = c.requires.right in
    let upper = c.in_ok-upper.ensures in
    let less = c.in_ok-less.ensures in
    record {
      node = less.shows.node;
      value = λ g given.
          less.shows.value g (upper.adds.keeps.given g given)
          ∙ (λ i. difference (upper.shows.value g given i)
          (if is_negative 32 (upper.adds.keeps.values g a own_a.0 i) then upper.adds.keeps.values g b own_b.0 i else 0))
          ∙ mixed_is (value_at old g a) (value_at old g b) (word_below old g a c.width.ensures.whole given own_a)
          (word_below old g b c.width.ensures.whole given own_b);
    }
