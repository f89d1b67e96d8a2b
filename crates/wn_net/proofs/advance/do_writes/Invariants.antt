use Rattle.std.proofs.Common.{◌≡◌, ◌<◌, ℕ, ◌^◌, drop}
use Rattle.std.specs.List.{AllByRecursion}
use Rattle.wn_net.specs.Value.{word_at}
use Rattle.wn_net.specs.Next.{write_each, IsWriteIn}
use Rattle.wn_net.proofs.advance.do_writes.Given as goal

abbrev pub invariant-loop-write : goal.invariant-loop-write
invariant-loop-write l = record {
  writes : AllByRecursion (IsWriteIn l.values l.mem.width) (drop l.write-index l.mem.writes);
  words : (i : ℕ) → word_at l.words i < 2 ^ l.mem.width;
  rest : write_each l.values l.mem.width l.words (drop l.write-index l.mem.writes)
      ≡ write_each l.values l.mem.width l.initial.words l.mem.writes;
}
