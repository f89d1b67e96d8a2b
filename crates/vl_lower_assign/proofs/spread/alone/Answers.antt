use Rattle.std.specs.Prelude.{◌≡◌, ℤ, pos, ◌-ℤ◌}
use Rattle.std.proofs.Common.{◌∙◌, arith, subst}
use Rattle.std.proofs.lemmas.Int.{ints}
use Rattle.wn_net.specs.Net.{width_at, value_at}
use Rattle.vl_lower_nodes.specs.Points.{IsAddress}
use Rattle.vl_lower_assign.specs.declared.spread.BitPlace.{BitPlace}
use Rattle.vl_lower_assign.specs.Places.{IsAt}
use Rattle.vl_lower_assign.proofs.Masking.{moved_is}
use Rattle.vl_lower_assign.proofs.spread.alone.Goals as goal

pub returns-in_ok-bits-in-Varying-clause-value : goal.returns-in_ok-bits-in-Varying-clause-value
returns-in_ok-bits-in-Varying-clause-value c = λ g p given here.
    let net = c.args.net.now in
    let P : BitPlace → Type 0 = λ q. IsAt net g q p in
    let at = subst P c.in-Varying.is here in
    let Q : ℤ → Type 0 = λ q. IsAddress (value_at net g c.in-Varying.at.up) q in
    let twice : p ≡ pos 0 -ℤ (pos 0 -ℤ p) = omega (arith, ints) in
    c.in_ok-bits-in-Varying.ensures.value g (pos 0 -ℤ p) given
    (record { upwards = at.downwards; downwards = subst Q twice at.upwards })
    ∙ moved_is (width_at net c.args.value) c.args.width p (value_at net g c.args.value)
