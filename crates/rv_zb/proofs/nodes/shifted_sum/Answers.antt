use Rattle.std.proofs.Common.{◌∙◌}
use Rattle.fv_bits.specs.Bits.{shifted_left}
use Rattle.rv_table.specs.Arithmetic.{sum}
use Rattle.wn_net.specs.Net.{value_at}
use Rattle.wn_net.proofs.Laws.{adds_on, node_on, given_on}
use Rattle.rv_zb.specs.Effect.{shift}
use Rattle.rv_zb.proofs.Words.{shifted}
use Rattle.rv_zb.proofs.nodes.shifted_sum.Goals as goal

pub returns-clause-shows : goal.returns-clause-shows
returns-clause-shows c =
    let old = c.args.net.now in
    let s1 = c.args.s1 in
    let s2 = c.args.s2 in
    let by = c.in_ok-by.ensures in
    let moved = c.in_ok-moved.ensures.built in
    let total = c.in_ok-total.ensures in
    let to2 = adds_on _ _ _ by.adds moved.adds in
    let wide = node_on _ _ 32 s1 by.adds c.requires.first in
    record {
      node = total.shows.node;
      value = λ g given.
          let first = moved.value g
          ∙ (λ i. shifted_left (wide.1 i) (by.adds.keeps.values g s1 c.requires.first.0 i)
          ((by.shows.value g given ∙ c.shift.ensures.value) i)) in
          total.shows.value g (given_on _ _ g to2 given)
          ∙ (λ i. sum (first i) (to2.keeps.values g s2 c.requires.second.0 i))
          ∙ shifted (value_at old g s1) (shift c.args.row) (value_at old g s2);
    }
