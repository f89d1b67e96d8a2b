use Rattle.std.proofs.Common.{◌≡◌, ◌≤◌, ◌++◌, ℕ, length, take, drop}
use Rattle.std.specs.List.{AllByRecursion}
use Rattle.wn_net.specs.Value.{words_at}
use Rattle.wn_net.specs.Next.{next_mems, IsMemIn}
use Rattle.wn_net.proofs.advance.move_mems.Given as goal

abbrev pub invariant-loop-index : goal.invariant-loop-index
invariant-loop-index l = record {
  each : length l.numbers ≡ length l.mems;
  writes : AllByRecursion (IsMemIn l.values) (drop l.index l.mems);
  same : (m : ℕ) → l.index ≤ m → words_at l.numbers m ≡ words_at l.initial.numbers m;
  rest : take l.index l.numbers ++ next_mems l.values (drop l.index l.mems) (drop l.index l.numbers)
      ≡ next_mems l.values l.mems l.initial.numbers;
}
