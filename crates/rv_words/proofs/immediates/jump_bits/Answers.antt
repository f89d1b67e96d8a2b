use Rattle.std.proofs.Common.{◌∙◌}
use Rattle.fv_bits.specs.Bits.{joined}
use Rattle.rv_table.specs.Fields.{field}
use Rattle.wn_net.proofs.Laws.{adds_on}
use Rattle.rv_words.proofs.immediates.jump_bits.Goals as goal

pub returns-clause-shows : goal.returns-clause-shows
returns-clause-shows c =
    let sign = c.in_ok-sign.ensures in
    let two = c.in_ok-nine.ensures in
    let three = c.in_ok-ten.ensures in
    let bits = c.in_ok-bits.ensures in
    let word = c.args.word in
    let to2 = adds_on _ _ _ sign.adds two.adds in
    let to3 = adds_on _ _ _ to2 three.adds in
    record {
      node = bits.shows.node;
      value = λ g given.
          let given1 = sign.adds.keeps.given g given in
          let given2 = two.adds.keeps.given g given1 in
          let given3 = three.adds.keeps.given g given2 in
          let a = two.shows.value g given1
          ∙ (λ i. joined 8 (sign.shows.value g given i)
          (field 19 12 (sign.adds.keeps.values g word c.requires.0 i))) in
          let b = three.shows.value g given2
          ∙ (λ i. joined 1 (a i) (field 20 20 (to2.keeps.values g word c.requires.0 i))) in
          bits.shows.value g given3
          ∙ (λ i. joined 10 (b i) (field 30 21 (to3.keeps.values g word c.requires.0 i)));
    }
