use Rattle.std.proofs.Common.{◌∙◌}
use Rattle.fv_bits.specs.Bits.{joined}
use Rattle.wn_net.specs.Net.{value_at}
use Rattle.rv_expand.proofs.WordLemmas.{of_upper_is}
use Rattle.rv_expand.proofs.assemble.of_upper.Goals as goal

pub returns-clause-shows : goal.returns-clause-shows
returns-clause-shows c =
    let old = c.args.net.now in
    let front = c.in_ok-front.ensures in
    let word = c.in_ok-word.ensures in
    record {
      node = word.shows.node;
      value = λ g given.
          word.shows.value g (front.adds.keeps.given g given)
          ∙ (λ i. joined 7 (front.shows.value g given i) (c.opcode_of.ensures.value i))
          ∙ of_upper_is c.args.pattern.opcode (value_at old g c.args.rd) (value_at old g c.args.upper);
    }
