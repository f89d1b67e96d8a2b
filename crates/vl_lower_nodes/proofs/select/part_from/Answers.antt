use Rattle.std.specs.Prelude.{◌≡◌, ◌≤◌, ℕ, ℤ, pos, ◌-ℤ◌}
use mir.Syntax.{w64}
use mir.Val.{to_z, of_z}
use Rattle.std.proofs.Common.{sym, ◌∙◌, arith, subst}
use Rattle.std.proofs.lemmas.Int.{ints}
use Rattle.vl_size.specs.Size.{bits_from}
use Rattle.wn_net.specs.Net.{width_at, value_at}
use Rattle.wn_net.proofs.Laws.{adds_on, given_on, value_on, built_node}
use Rattle.wn_net.proofs.Moved.{value_below}
use Rattle.vl_lower_nodes.specs.Points.{IsAddress, GivePlace}
use Rattle.vl_lower_nodes.proofs.PartLemmas.{within_is}
use Rattle.vl_lower_nodes.proofs.select.part_from.Goals as goal

pub returns-in-Some-clause-shows : goal.returns-in-Some-clause-shows
returns-in-Some-clause-shows c =
    let net = c.args.net.now in
    let id = c.args.vector in
    let place_is : to_z w64 (of_z w64 c.args.place) ≡ c.args.place = omega (arith, ints) in
    record {
      node = built_node _ _ _ _ _ _ c.in_ok-part.ensures.built;
      value = λ g given. c.in_ok-part.ensures.built.value g
          ∙ within_is c.args.count (width_at net id) (value_at net g id) c.in-Some.low c.args.place (sym place_is ∙ c.in-Some.ensures.0)
          (value_below net g c.width-width.ensures.whole given id);
    }

pub returns-clause-shows : goal.returns-clause-shows
returns-clause-shows c =
    let net = c.args.net.now in
    let id = c.args.vector in
    let place_is : to_z w64 (of_z w64 c.args.place) ≡ c.args.place = omega (arith, ints) in
    let P : ℤ → Type 0 = λ p. IsAddress c.address_of.result p in
    let Q : ℤ → Type 0 = λ p. IsAddress c.address_below.result (pos 0 -ℤ p) in
    let one = c.in_ok-up.ensures.adds in
    let two = c.in_ok-down.ensures.adds in
    let both = adds_on _ _ _ one two in
    let last = c.number-2.new.net in
    record {
      node = c.in_ok-part-2.ensures.there;
      value = λ g given.
          let n_is = value_on c.number.new.net last g c.in_ok-up.up two c.in_ok-up.ensures.shows.node.0
          ∙ c.in_ok-up.ensures.shows.value g given in
          let m_is = c.in_ok-down.ensures.shows.value g (given_on _ _ g one given) in
          let U : ℕ → Type 0 = λ n. IsAddress n c.args.place in
          let D : ℕ → Type 0 = λ n. IsAddress n (pos 0 -ℤ c.args.place) in
          let w_is = both.keeps.widths id c.requires.vector in
          let x_is = value_on net last g id both c.requires.vector in
          c.in_ok-part-2.ensures.value g c.args.place (given_on _ _ g both given)
          (record {
            upwards = subst U (sym n_is) (subst P place_is c.address_of.ensures.address);
            downwards = subst D (sym m_is) (subst Q place_is c.address_below.ensures.address);
          })
          ∙ (λ j. bits_from c.args.count (w_is j) (x_is j) c.args.place);
    }
