use Rattle.std.specs.Prelude.{◌≡◌, ℕ, if◌then◌else◌}
use mir.Syntax.{w64}
use mir.Val.{to_z, of_z}
use Rattle.std.proofs.Common.{sym, ap, ◌∙◌, subst, arith}
use Rattle.std.proofs.lemmas.Int.{ints}
use Rattle.fv_bits.specs.Bits.{as_int, of_int, difference}
use Rattle.wn_net.specs.Net.{width_at, value_at}
use Rattle.wn_net.proofs.Laws.{adds_on, given_on, value_on}
use Rattle.vl_lower_nodes.specs.Near.{chosen}
use Rattle.vl_lower_nodes.specs.Points.{IsAddress, distance}
use Rattle.vl_lower_nodes.proofs.DistanceLemmas.{is_address}
use Rattle.vl_lower_nodes.proofs.place.address.Goals as goal

pub returns-in_err-address-clause-adds : goal.returns-in_err-address-clause-adds
returns-in_err-address-clause-adds c =
    adds_on _ _ _ (adds_on _ _ _ (adds_on _ _ _ c.in_ok-cut.ensures.adds c.in_ok-base.ensures.adds)
    c.in_ok-distance.ensures.adds) c.in_err-address.ensures.adds

pub returns-clause-adds : goal.returns-clause-adds
returns-clause-adds c =
    adds_on _ _ _ (adds_on _ _ _ (adds_on _ _ _ c.in_ok-cut.ensures.adds c.in_ok-base.ensures.adds)
    c.in_ok-distance.ensures.adds) c.in_ok-address.ensures.adds

pub returns-clause-value : goal.returns-clause-value
returns-clause-value c = λ g given.
    let one = c.in_ok-cut.ensures.adds in
    let two = c.in_ok-base.ensures.adds in
    let three = c.in_ok-distance.ensures.adds in
    let both = adds_on _ _ _ one two in
    let all = adds_on _ _ _ both three in
    let n = value_at c.cut.new.net g c.in_ok-cut.cut.index in
    let near = value_at c.cut.new.net g c.in_ok-cut.cut.near in
    let x = value_at c.distance.new.net g c.in_ok-distance.distance in
    let i = as_int (width_at c.args.net.now c.args.index) c.args.signed (value_at c.args.net.now g c.args.index) in
    let whole_base : to_z w64 (of_z w64 c.args.base) ≡ c.args.base = omega (arith, ints) in
    let base_is : value_at c.number.new.net g c.in_ok-base.base ≡ of_int 34 c.args.base =
    c.in_ok-base.ensures.shows.value g (given_on _ _ g one given) ∙ c.number_of.ensures.value
    ∙ ap (of_int 34) whole_base in
    let index_is : value_at c.number.new.net g c.in_ok-cut.cut.index ≡ n =
    value_on _ _ g c.in_ok-cut.cut.index two c.in_ok-cut.ensures.index.0 in
    let x_is : x ≡ (if c.args.along then difference 34 n (of_int 34 c.args.base)
    else difference 34 (of_int 34 c.args.base) n) =
    c.in_ok-distance.ensures.shows.value g (given_on _ _ g both given)
    ∙ (λ j. if c.args.along then difference 34 (index_is j) (base_is j) else difference 34 (base_is j) (index_is j)) in
    let chosen_is : value_at c.chosen.new.net g c.in_ok-address.address ≡ chosen x near =
    c.in_ok-address.ensures.shows.value g (given_on _ _ g all given)
    ∙ (λ j. chosen x (value_on _ _ g c.in_ok-cut.cut.near (adds_on _ _ _ two three) c.in_ok-cut.ensures.near.0 j)) in
    let P : ℕ → Type 0 = λ m. IsAddress m (distance c.args.along c.args.base i) in
    subst P (sym chosen_is)
    (is_address c.args.along i c.args.base n near x (c.in_ok-cut.ensures.value g given) c.requires.base x_is)
