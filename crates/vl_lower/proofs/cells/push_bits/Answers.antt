use Rattle.std.specs.Prelude.{◌≡◌, ◌-◌, suc}
use Rattle.std.proofs.Common.{arith}
use Rattle.vl_lower.proofs.Spots.{left_more}
use Rattle.vl_lower.proofs.cells.push_bits.Goals as goal

pub loop-left-preserved : goal.loop-left-preserved
loop-left-preserved c =
    let one : c.loop-left.left ≡ suc (c.loop-left.left - 1) = omega (arith, c.loop-left-test.true) in
    left_more c.args.spots.now c.loop-left.spots c.push_kept.new.spots c.args.keep.now c.args.width c.loop-left.left
    (c.loop-left.left - 1) c.args.name one c.loop-left.invariant c.in_ok-push_kept.ensures
