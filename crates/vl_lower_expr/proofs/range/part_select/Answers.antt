use Rattle.std.specs.Prelude.{◌≡◌}
use mir.Syntax.{w64}
use mir.Val.{to_z, of_z}
use Rattle.std.proofs.Common.{◌∙◌, arith}
use Rattle.std.proofs.lemmas.Int.{ints}
use Rattle.fv_bits.specs.Bits.{extended}
use Rattle.vl_size.specs.Size.{bits_from}
use Rattle.wn_net.specs.Net.{value_at}
use Rattle.wn_net.proofs.Laws.{given_on}
use Rattle.vl_lower_expr.proofs.range.part_select.Goals as goal

pub returns-clause-shows : goal.returns-clause-shows
returns-clause-shows c = λ p v.
    let range = c.range_of-range.result in
    let kind = c.args.kind in
    let place_is : to_z w64 (of_z w64 range.place) ≡ range.place = omega (arith, ints) in
    let bits = c.in_ok-bits.ensures in
    let count = c.range_of-range.ensures.count v in
    let place = c.range_of-range.ensures.place v in
    record {
      node = c.in_ok-fitted.ensures.shows.node;
      value = λ g given.
          c.in_ok-fitted.ensures.shows.value g (given_on _ _ g bits.adds given)
          ∙ (λ i. extended (bits.shows.node.1 i) kind.width kind.signed (bits.shows.value g given i))
          ∙ (λ i. extended (count i) kind.width kind.signed
          (bits_from (count i) (c.requires.vector.1 i) (value_at c.args.net.now g c.args.vector) ((place_is
          ∙ place) i)));
    }
