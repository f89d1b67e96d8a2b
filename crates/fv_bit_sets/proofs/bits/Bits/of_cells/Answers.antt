use Rattle.std.proofs.Common.{arith, suc, Some, None}
use Rattle.fv_bit_sets.proofs.Rising.{rising_to}
use Rattle.fv_bit_sets.proofs.bits.Bits.of_cells.Goals as goal

pub put-requires-2 : goal.put-requires-2
put-requires-2 c =
    rising_to 0 (Some (suc c.args.first)) (Some c.args.past) c.put.new.steps.items
    (λ x h. omega (arith, h, c.requires)) c.in_ok-put.ensures.rising

pub invariant_of-result : goal.invariant_of-result
invariant_of-result c =
    rising_to 0 (Some (suc c.args.past)) None c.put-2.new.steps.items (λ x h. tt) c.in_ok-put-2.ensures.rising
