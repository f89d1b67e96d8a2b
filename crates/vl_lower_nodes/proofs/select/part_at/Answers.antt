use Rattle.std.specs.Prelude.{◌≡◌}
use Rattle.std.proofs.Common.{◌∙◌}
use Rattle.fv_bits.specs.Bits.{as_int}
use Rattle.vl_size.specs.Size.{bits_from, start_of}
use Rattle.wn_net.specs.Net.{width_at, value_at}
use Rattle.wn_net.proofs.Laws.{given_on, value_on, node_on}
use Rattle.vl_lower_nodes.proofs.select.part_at.Goals as goal

pub returns-clause-shows : goal.returns-clause-shows
returns-clause-shows c =
    let net = c.args.net.now in
    let d = c.args.decl.now in
    let one = c.in_ok-place.ensures.adds in
    let mid = c.place_from.new.net in
    let vector = node_on net mid d.width c.args.vector one c.requires.vector in
    record {
      node = c.in_ok-part.ensures.there;
      value = λ g given.
          let i = as_int (width_at net c.args.index) c.args.signed (value_at net g c.args.index) in
          let x_is = value_on net mid g c.args.vector one c.requires.vector.0 in
          c.in_ok-part.ensures.value g (start_of d i c.args.count) (given_on _ _ g one given)
          (c.in_ok-place.ensures.value g given)
          ∙ (λ j. bits_from c.args.count (vector.1 j) (x_is j) (start_of d i c.args.count));
    }
