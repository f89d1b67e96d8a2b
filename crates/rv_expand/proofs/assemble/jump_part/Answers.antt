use Rattle.std.proofs.Common.{◌∙◌}
use Rattle.fv_bits.specs.Bits.{joined}
use Rattle.rv_table.specs.Fields.{field}
use Rattle.wn_net.specs.Net.{value_at}
use Rattle.rv_expand.proofs.WordLemmas.{jump_part_is}
use Rattle.rv_expand.proofs.assemble.jump_part.Goals as goal

pub returns-clause-shows : goal.returns-clause-shows
returns-clause-shows c =
    let old = c.args.net.now in
    let n = c.args.immediate in
    let sign = c.in_ok-sign.ensures in
    let bits = c.in_ok-bits.ensures in
    record {
      node = bits.shows.node;
      value = λ g given.
          let same = sign.adds.keeps.values g n c.requires.0 in
          bits.shows.value g (sign.adds.keeps.given g given)
          ∙ (λ i. joined 8 (joined 1 (joined 10 (sign.shows.value g given i) (field 10 1 (same i)))
          (field 11 11 (same i))) (field 19 12 (same i)))
          ∙ jump_part_is (value_at old g n);
    }
