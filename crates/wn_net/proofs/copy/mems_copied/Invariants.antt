use Rattle.std.proofs.Common.{◌≡◌, take}
use Rattle.wn_net.proofs.copy.mems_copied.Given as goal

abbrev pub invariant-loop-mem : goal.invariant-loop-mem
invariant-loop-mem l = l.made.items ≡ take l.mem-index l.mems
