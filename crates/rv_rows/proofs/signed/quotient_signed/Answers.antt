use Rattle.std.specs.Prelude.{◌==◌, if◌then◌else◌}
use Rattle.std.proofs.Common.{◌∙◌}
use Rattle.fv_bits.specs.Bits.{bit, ones}
use Rattle.wn_net.specs.Net.{value_at}
use Rattle.wn_net.proofs.Laws.{adds_on, node_on, built_node}
use Rattle.rv_words.proofs.BitLemmas.{set_is}
use Rattle.rv_words.proofs.WordLemmas.{word_below}
use Rattle.rv_rows.specs.Signed.{rounded_quotient}
use Rattle.rv_rows.proofs.SignedLemmas.{quotient_signed_is}
use Rattle.rv_rows.proofs.signed.quotient_signed.Goals as goal

pub returns-clause-shows : goal.returns-clause-shows
returns-clause-shows c =
    let old = c.args.net.now in
    let known = c.width.ensures.whole in
    let a = c.args.a in
    let b = c.args.b in
    let rounded = c.in_ok-rounded.ensures in
    let full = c.in_ok-ones.ensures in
    let zero = c.in_ok-is_zero.ensures in
    let chosen = c.in_ok-chosen.ensures.built in
    let rest = adds_on _ _ _ full.adds zero.adds in
    let to2 = adds_on _ _ _ rounded.adds full.adds in
    let there = built_node _ _ _ _ _ _ chosen in
    let wide = node_on _ _ 32 c.in_ok-ones.ones zero.adds full.shows.node in
    record {
      node = (there.0, there.1 ∙ wide.1);
      value = λ g given.
          let given1 = rounded.adds.keeps.given g given in
          let test = zero.shows.value g (full.adds.keeps.given g given1)
          ∙ (λ i. bit (to2.keeps.values g b c.requires.right.0 i == 0)) in
          let all = zero.adds.keeps.values g c.in_ok-ones.ones full.shows.node.0 ∙ full.shows.value g given1 in
          let found = rest.keeps.values g c.in_ok-rounded.rounded rounded.shows.node.0
          ∙ rounded.shows.value g given in
          chosen.value g
          ∙ (λ i. if test i == 1 then all i else found i)
          ∙ (λ i. if set_is (value_at old g b == 0) i then ones 32
          else rounded_quotient (value_at old g a) (value_at old g b))
          ∙ quotient_signed_is (value_at old g a) (value_at old g b)
          (word_below old g a known given c.requires.left) (word_below old g b known given c.requires.right);
    }
