use Rattle.std.proofs.Common.{◌≡◌, ◌<◌, length, map, take, drop}
use Rattle.std.specs.Prelude.{slice_index}
use Rattle.std.specs.List.{AllByRecursion}
use Rattle.wn_net.proofs.advance.move_regs.Given as goal

abbrev pub invariant-loop-index : goal.invariant-loop-index
invariant-loop-index l = record {
  each : length l.numbers ≡ length l.regs;
  next : AllByRecursion (λ r. r.next < length l.values) (drop l.index l.regs);
  moved : take l.index l.numbers ≡ map (λ r. slice_index l.values r.next) (take l.index l.regs);
}
