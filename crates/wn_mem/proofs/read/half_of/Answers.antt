use Rattle.std.specs.Prelude.{◌≡◌, ◌*◌, ◌%◌, ◌≤◌, ◌^◌}
use Rattle.std.proofs.Common.{arith, ap}
use Rattle.std.proofs.lemmas.Nat.{one_shl}
use Rattle.std.proofs.Math.Nat.{mul-le-mul_right}
use Rattle.std.proofs.Math.Pow.{pow_mono}
use Rattle.wn_mem.proofs.read.half_of.Goals as goal

pub overflow_mul-bits : goal.overflow_mul-bits
overflow_mul-bits c =
    let each = c.args.each in
    let same : 1 * 2 ^ c.args.bits % 2 ^ 64 * each ≡ 2 ^ c.args.bits * each =
    ap (λ x. x * each) (one_shl c.args.bits 64 (omega (arith, c.requires.bits))) in
    let few : 2 ^ c.args.bits ≤ 2 ^ 58 = pow_mono {j = 58} (omega (arith, c.requires.bits)) in
    let most : 2 ^ c.args.bits * each ≤ 2 ^ 58 * each = mul-le-mul_right each few in
    omega (arith, same, most, c.requires.each)
