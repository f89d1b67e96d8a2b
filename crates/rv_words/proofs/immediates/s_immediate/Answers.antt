use Rattle.std.proofs.Common.{◌∙◌}
use Rattle.fv_bits.specs.Bits.{joined}
use Rattle.rv_table.specs.Fields.{field, sign_extended}
use Rattle.rv_table.specs.Immediates.{s_immediate}
use Rattle.rv_words.proofs.immediates.s_immediate.Goals as goal

pub returns-clause-shows : goal.returns-clause-shows
unfolding s_immediate
returns-clause-shows c =
    let front = c.in_ok-front.ensures in
    let bits = c.in_ok-bits.ensures in
    let immediate = c.in_ok-immediate.ensures in
    record {
      node = immediate.shows.node;
      value = λ g given.
          let given1 = front.adds.keeps.given g given in
          let given2 = bits.adds.keeps.given g given1 in
          let joined_is = bits.shows.value g given1
          ∙ (λ i. joined 5 (front.shows.value g given i)
          (field 11 7 (front.adds.keeps.values g c.args.word c.requires.0 i))) in
          immediate.shows.value g given2 ∙ (λ i. sign_extended 12 (joined_is i));
    }
