use Rattle.std.specs.Prelude.{◌≡◌, ℕ, ◌≤◌, ◌==◌}
use Rattle.std.proofs.Common.{arith, sym, ◌∙◌, subst}
use Rattle.fv_bits.specs.Bits.{extended, as_int, bit}
use Rattle.wn_net.specs.Net.{width_at, value_at}
use Rattle.wn_net.proofs.Laws.{adds_on, given_on, value_on, node_on, built_node}
use Rattle.wn_net.proofs.Moved.{value_below}
use Rattle.vl_lower_nodes.specs.Near.{IsCut}
use Rattle.vl_lower_nodes.proofs.CutLemmas.{is_cut}
use Rattle.vl_lower_nodes.proofs.cut.cut.Goals as goal

pub returns-clause-value : goal.returns-clause-value
returns-clause-value c = λ g given.
    let net = c.args.net.now in
    let id = c.args.index in
    let s = c.args.signed in
    let k = c.bits_of.result in
    let w = width_at net id in
    let v = value_at net g id in
    let some : 1 ≤ w = omega (arith, c.width-width.ensures.value, c.width-width.ensures.some) in
    let one = c.in_ok-low.ensures.adds in
    let two = c.in_ok-back.ensures.adds in
    let three = c.in_ok-near.ensures.built.adds in
    let four = c.in_ok-index.ensures.adds in
    let both = adds_on _ _ _ one two in
    let all = adds_on _ _ _ both three in
    let low_there = c.in_ok-low.ensures.shows.node in
    let low_is : value_at c.fit.new.net g c.in_ok-low.low ≡ extended w k s v = c.in_ok-low.ensures.shows.value g given in
    let back_is : value_at c.fit-2.new.net g c.in_ok-back.back ≡ extended k w s (extended w k s v) =
    c.in_ok-back.ensures.shows.value g (given_on _ _ g one given)
    ∙ (λ i. extended (low_there.1 i) (c.width-width.ensures.value i) s (low_is i)) in
    let near_is : value_at c.fit-3.new.net g c.in_ok-near.near ≡ bit (extended k w s (extended w k s v) == v) =
    value_on _ _ g c.in_ok-near.near four (built_node _ _ _ _ _ _ c.in_ok-near.ensures.built).0
    ∙ c.in_ok-near.ensures.built.value g
    ∙ (λ i. bit (back_is i == value_on net c.fit-2.new.net g id both c.requires.there i)) in
    let index_is : value_at c.fit-3.new.net g c.in_ok-index.index ≡ extended k 34 s (extended w k s v) =
    c.in_ok-index.ensures.shows.value g (given_on _ _ g all given)
    ∙ (λ i. extended
    ((node_on _ _ k c.in_ok-low.low (adds_on _ _ _ two three) low_there).1 i) 34 s
    ((value_on _ _ g c.in_ok-low.low (adds_on _ _ _ two three) low_there.0 ∙ low_is) i)) in
    let P : ℕ → Type 0 = λ n. IsCut (as_int w s v) n (value_at c.fit-3.new.net g c.in_ok-near.near) in
    subst P (sym index_is)
    (is_cut w k v (value_at c.fit-3.new.net g c.in_ok-near.near) s c.bits_of.ensures some
    (value_below net g c.width-width.ensures.whole given id) near_is)
