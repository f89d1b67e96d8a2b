use Rattle.std.proofs.Common.{◌≡◌, ◌++◌, reverse, length}
use Rattle.vl_elab_draft.proofs.path.push_from_end.Given as goal

abbrev pub invariant-loop-last : goal.invariant-loop-last
invariant-loop-last l = l.bytes.items ++ reverse l.rest ≡ l.fn.bytes.items ++ reverse l.all

abbrev pub decreases-loop-last : goal.decreases-loop-last
decreases-loop-last l = length l.rest
