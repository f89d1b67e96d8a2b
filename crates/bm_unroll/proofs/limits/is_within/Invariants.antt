use Rattle.std.specs.Prelude.{◌≡◌, ◌+◌, length, map, sum, take}
use Rattle.bm_unroll.proofs.limits.is_within.Given as goal

abbrev pub invariant-loop-mem : goal.invariant-loop-mem
invariant-loop-mem l = l.room + length l.net.regs + sum (take l.mem-index (map (λ m. m.words) l.net.mems)) ≡ 100000000
