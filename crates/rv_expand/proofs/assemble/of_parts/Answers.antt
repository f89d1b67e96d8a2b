use Rattle.std.proofs.Common.{◌∙◌}
use Rattle.fv_bits.specs.Bits.{joined}
use Rattle.rv_table.specs.Assembled.{funct3_of}
use Rattle.wn_net.specs.Net.{value_at}
use Rattle.rv_expand.proofs.WordLemmas.{of_parts_is}
use Rattle.rv_expand.proofs.assemble.of_parts.Goals as goal

pub returns-clause-shows : goal.returns-clause-shows
returns-clause-shows c =
    let old = c.args.net.now in
    let pattern = c.args.pattern in
    let upper = c.in_ok-upper.ensures in
    let lower = c.in_ok-lower.ensures in
    let word = c.in_ok-word.ensures in
    record {
      node = word.shows.node;
      value = λ g given.
          let given1 = upper.adds.keeps.given g given in
          let front = lower.adds.keeps.values g c.in_ok-upper.upper upper.shows.node.0 ∙ upper.shows.value g given in
          let behind = lower.shows.value g given1
          ∙ (λ i. joined 7 (joined 5 (c.funct3_of.ensures.value i)
          (upper.adds.keeps.values g c.args.low c.requires.low.0 i)) (c.opcode_of.ensures.value i)) in
          word.shows.value g (lower.adds.keeps.given g given1)
          ∙ (λ i. joined 15 (front i) (behind i))
          ∙ of_parts_is pattern.opcode (value_at old g c.args.low) (funct3_of pattern) (value_at old g c.args.rs1)
          (value_at old g c.args.middle) (value_at old g c.args.high);
    }
