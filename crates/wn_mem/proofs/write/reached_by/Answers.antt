use Rattle.std.specs.Prelude.{◌<◌, ◌≤◌, ◌^◌}
use Rattle.std.proofs.Common.{arith}
use Rattle.std.proofs.Math.Pow.{pow_mono}
use Rattle.wn_mem.proofs.Tree.{all_bits}
use Rattle.wn_mem.proofs.write.reached_by.Goals as goal

pub returns-clause-reached : goal.returns-clause-reached
returns-clause-reached c =
    let few : 2 ^ c.min-count.result ≤ 2 ^ c.args.width = pow_mono (omega (arith, c.min-count.ensures)) in
    omega (arith, c.reached.ensures, few)

pub returns-clause-all : goal.returns-clause-all
returns-clause-all c = λ less.
    let over : 2 ^ c.min-count.result < c.args.words = omega (arith, less, c.reached.ensures) in
    let wide : c.args.width ≤ c.min-count.result =
    all_bits c.bits_for.result c.args.width c.min-count.result _ c.min-count.ensures c.bits_for.ensures.enough over in
    let few : 2 ^ c.args.width ≤ 2 ^ c.min-count.result = pow_mono wide in
    omega (arith, few, over, c.reached.ensures)
