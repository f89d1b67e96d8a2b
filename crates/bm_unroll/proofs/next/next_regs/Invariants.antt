use Rattle.std.specs.Prelude.{◌≡◌, map, take, slice_index}
use Rattle.bm_unroll.proofs.next.next_regs.Given as goal

abbrev pub invariant-loop-reg : goal.invariant-loop-reg
invariant-loop-reg l = l.made.items ≡ map (λ x. slice_index l.table x.next) (take l.reg-index l.net.regs)
