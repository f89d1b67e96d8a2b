use Rattle.std.proofs.Common.{◌≡◌, ◌++◌, reverse, length}
use Rattle.vl_elab_draft.proofs.path.Path.from_end.Given as goal

abbrev pub invariant-loop-path : goal.invariant-loop-path
invariant-loop-path l = l.bytes.items ++ reverse l.path ≡ reverse l.self

abbrev pub decreases-loop-path : goal.decreases-loop-path
decreases-loop-path l = length l.path
