use Rattle.std.specs.Prelude.{◌≡◌, ℤ}
use Rattle.std.proofs.Common.{ap, ◌∙◌, arith, subst}
use mir.Syntax.{w64}
use mir.Val.{to_z, of_z}
use Rattle.std.proofs.lemmas.Int.{ints}
use Rattle.fv_bits.specs.Bits.{part, as_int, shifted_right}
use Rattle.vl_size.specs.Size.{offset_of}
use Rattle.wn_net.specs.Net.{width_at, value_at}
use Rattle.wn_net.proofs.Laws.{value_on, built_node}
use Rattle.wn_net.proofs.Moved.{value_within}
use Rattle.vl_lower_nodes.specs.Points.{IsAddress, distance}
use Rattle.vl_lower_nodes.proofs.PartLemmas.{bit_is}
use Rattle.vl_lower_nodes.proofs.select.bit_at.Goals as goal

pub slice-requires-clause-within : goal.slice-requires-clause-within
slice-requires-clause-within c =
    let before = c.in_ok-place.ensures.adds.keeps.widths c.args.vector c.requires.vector.0 in
    omega (arith, c.in_ok-moved.ensures.built.width, before, c.requires.vector.1, c.requires.bits)

pub returns-clause-shows : goal.returns-clause-shows
returns-clause-shows c =
    let net = c.args.net.now in
    let d = c.args.decl.now in
    let base_is : to_z w64 (of_z w64 c.right_of.result) ≡ d.right = omega (arith, ints, c.right_of.ensures) in
    let whole = c.width-width.ensures.whole in
    record {
      node = built_node _ _ _ _ _ _ c.in_ok-bit.ensures.built;
      value = λ g given.
          let x = value_at net g c.args.vector in
          let i = as_int (width_at net c.args.index) c.args.signed (value_at net g c.args.index) in
          let n = value_at c.address.new.net g c.in_ok-place.place in
          let P : ℤ → Type 0 = λ p. IsAddress n p in
          c.in_ok-bit.ensures.built.value g
          ∙ ap (part 0 1) (c.in_ok-moved.ensures.built.value g
          ∙ (λ i. shifted_right (value_on _ _ g c.args.vector c.in_ok-place.ensures.adds c.requires.vector.0 i)
          n))
          ∙ bit_is d.width x n (offset_of d i)
          (value_within net g d.width c.args.vector whole given c.requires.vector) c.requires.few
          (subst P (λ j. distance (c.descends.ensures j) (base_is j) i) (c.in_ok-place.ensures.value g given));
    }
