use Rattle.std.specs.Prelude.{bit_and, bit_or}
use Rattle.std.proofs.Common.{◌∙◌}
use Rattle.fv_bits.specs.Bits.{complement}
use Rattle.wn_net.proofs.Laws.{value_on, given_on}
use Rattle.wn_chain.proofs.writes.changed_word.Goals as goal

pub returns-clause-shows : goal.returns-clause-shows
returns-clause-shows c =
    let net = c.args.net.now in
    let one = c.and.new.self in
    let write = c.args.write.now in
    let put = c.in_ok-put.ensures.built in
    let made = c.in_ok-changed.ensures in
    let wide = put.adds.keeps.widths c.args.word c.requires.word in
    record {
      node = (made.shows.node.0, made.shows.node.1 ∙ wide);
      value = λ g given.
          made.shows.value g (given_on net one g put.adds given)
          ∙ (λ i. bit_or (put.value g i)
          (bit_and (complement (wide i) (value_on net one g write.mask put.adds c.requires.mask.0 i))
          (value_on net one g c.args.word put.adds c.requires.word i)));
    }
