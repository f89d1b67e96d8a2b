use Rattle.std.specs.Prelude.{◌≡◌, ◌-◌, not, true, false, Bool, ℕ, ℤ, pos, ◌-ℤ◌}
use Rattle.std.proofs.Common.{ap, sym, ◌∙◌, arith, subst}
use mir.Syntax.{w64}
use mir.Val.{to_z, of_z}
use Rattle.std.proofs.lemmas.Int.{ints}
use Rattle.fv_bits.specs.Bits.{as_int}
use Rattle.vl_size.specs.Size.{descends, start_of}
use Rattle.wn_net.specs.Net.{width_at, value_at}
use Rattle.wn_net.proofs.Laws.{given_on, value_on}
use Rattle.vl_lower_nodes.specs.Points.{IsAddress, distance}
use Rattle.vl_lower_nodes.proofs.select.place_from.Goals as goal

-- counted the other way, it is what is left to 0
turned : (b : Bool) (base i p : ℤ) → distance b base i ≡ p → distance (not b) base i ≡ pos 0 -ℤ p
turned true base i p e = omega (arith, ints, e)
turned false base i p e = omega (arith, ints, e)

pub returns-clause-value : goal.returns-clause-value
returns-clause-value c = λ g given.
    let net = c.args.net.now in
    let d = c.args.decl.now in
    let base = c.start_base-base.result in
    let one = c.in_ok-up.ensures.adds in
    let two = c.in_ok-down.ensures.adds in
    let last = c.address-2.new.net in
    let i = as_int (width_at net c.args.index) c.args.signed (value_at net g c.args.index) in
    let n = value_at c.address.new.net g c.in_ok-up.up in
    let m = value_at last g c.in_ok-down.down in
    let n_is = value_on c.address.new.net last g c.in_ok-up.up two c.in_ok-up.ensures.there in
    let w_is = one.keeps.widths c.args.index c.requires.index in
    let v_is = value_on net c.address.new.net g c.args.index one c.requires.index in
    let base_is : to_z w64 (of_z w64 base) ≡ base = omega (arith, ints) in
    let start = c.start_base-base.ensures.value i in
    let P : ℤ → Type 0 = λ p. IsAddress n p in
    let Q : ℤ → Type 0 = λ p. IsAddress m p in
    let R : ℕ → Type 0 = λ k. IsAddress k (start_of d i c.args.count) in
    record {
      upwards =
          subst R (sym n_is)
          (subst P ((λ j. distance (c.descends-along.ensures j) (base_is j) i) ∙ start)
          (c.in_ok-up.ensures.value g given));
      downwards =
          subst Q
          ((λ j. distance (not (c.descends-along.ensures j)) (base_is j) (as_int (w_is j) c.args.signed (v_is j)))
          ∙ turned (descends d) base i (start_of d i c.args.count) start)
          (c.in_ok-down.ensures.value g (given_on _ _ g one given));
    }
