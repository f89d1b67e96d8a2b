use Rattle.std.specs.Prelude.{◌≡◌, ◌-◌, false, pos, ◌-ℤ◌, ◌+ℤ◌, if◌then◌else◌}
use Rattle.std.proofs.Common.{sym, ap, ◌∙◌, arith}
use mir.Syntax.{w64}
use mir.Val.{to_z, of_z}
use Rattle.std.proofs.lemmas.Int.{ints}
use Rattle.vl_size.specs.Size.{descends}
use Rattle.vl_lower_nodes.specs.Points.{distance}
use Rattle.vl_lower_nodes.proofs.select.start_base.Goals as goal

pub returns-else-descends-clause-value : goal.returns-else-descends-clause-value
returns-else-descends-clause-value c = λ i.
    let d = c.args.decl.now in
    let last = c.args.count - 1 in
    let up : descends d ≡ false = sym c.descends.ensures ∙ c.if-descends.false in
    let base : to_z w64 (of_z w64 c.first_of.result) -ℤ i ≡ d.right -ℤ (i +ℤ pos last) =
    omega (arith, ints, c.first_of.ensures.value, c.right_of-else-descends.ensures) in
    ap (λ b. distance b (to_z w64 (of_z w64 c.first_of.result)) i) up ∙ base
    ∙ sym (ap (λ b. if b then (if b then i -ℤ d.right else d.right -ℤ i)
    else (if b then (i +ℤ pos last) -ℤ d.right else d.right -ℤ (i +ℤ pos last))) up)
