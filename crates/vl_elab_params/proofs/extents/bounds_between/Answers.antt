use mir.Syntax.{w64}
use mir.Val.{to_z, of_z}
use Rattle.std.specs.Prelude.{◌≡◌, ◌+◌, nat_abs, Some}
use Rattle.std.proofs.Common.{◌∙◌, arith, ◌-ℤ◌}
use Rattle.std.proofs.lemmas.Int.{ints}
use Rattle.fv_bits.specs.Bits.{as_int}
use Rattle.vl_elab_params.proofs.Bounded.{bound_is, is_few, few_down, few_up, bounds_are, with_bounds}
use Rattle.vl_elab_params.proofs.extents.bounds_between.Goals as goal

pub returns : goal.returns
returns c =
    let l = as_int c.args.left.width c.args.left.signed c.args.left.number in
    let r = as_int c.args.right.width c.args.right.signed c.args.right.number in
    let x = c.in_ok-left.left in
    let y = c.in_ok-right.right in
    let few_x = is_few l x c.bound.result c.bound.ensures c.in_ok-left.was in
    let few_y = is_few r y c.bound-2.result c.bound-2.ensures c.in_ok-right.was in
    let down_x = few_down x few_x in
    let up_x = few_up x few_x in
    let down_y = few_down y few_y in
    let up_y = few_up y few_y in
    let same : c.unsigned_abs.result ≡ nat_abs (x -ℤ y) =
    omega (arith, ints, down_x, up_x, down_y, up_y, c.unsigned_abs.ensures.value) in
    let x_is : to_z w64 (of_z w64 x) ≡ x = omega (arith, ints, down_x, up_x) in
    let y_is : to_z w64 (of_z w64 y) ≡ y = omega (arith, ints, down_y, up_y) in
    (λ i. Some (with_bounds (c.unsigned_abs.result + 1) (x_is i) (y_is i)))
    ∙ bounds_are l r x y c.unsigned_abs.result (bound_is l x c.bound.result c.bound.ensures c.in_ok-left.was)
    (bound_is r y c.bound-2.result c.bound-2.ensures c.in_ok-right.was) few_x few_y same
