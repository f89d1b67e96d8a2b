use Rattle.std.specs.Prelude.{◌==◌, if◌then◌else◌}
use Rattle.std.proofs.Common.{◌∙◌}
use Rattle.wn_net.specs.Net.{value_at}
use Rattle.wn_net.proofs.Laws.{adds_on, built_node}
use Rattle.rv_words.proofs.ProductLemmas.{sign_bit}
use Rattle.rv_words.proofs.WordLemmas.{word_below}
use Rattle.rv_words.proofs.products.where_negative.Goals as goal

pub returns-clause-shows : goal.returns-clause-shows
returns-clause-shows c =
    let old = c.args.net.now in
    let a = c.args.a in
    let b = c.args.b in
    let own_a = c.requires.left in
    let own_b = c.requires.right in
    let sign = c.in_ok-sign.ensures.built in
    let zero = c.in_ok-zero.ensures in
    let chosen = c.in_ok-chosen.ensures.built in
    let to2 = adds_on _ _ _ sign.adds zero.adds in
    let there = built_node _ _ _ _ _ _ sign in
    let made = built_node _ _ _ _ _ _ chosen in
    record {
      node = (made.0, made.1 ∙ to2.keeps.widths b own_b.0 ∙ own_b.1);
      value = λ g given.
          chosen.value g
          ∙ (λ i. if (zero.adds.keeps.values g c.in_ok-sign.sign there.0 ∙ sign.value g) i == 1
          then to2.keeps.values g b own_b.0 i else zero.shows.value g (sign.adds.keeps.given g given) i)
          ∙ (λ i. if sign_bit (value_at old g a) (word_below old g a c.width.ensures.whole given own_a) i
          then value_at old g b else 0);
    }
