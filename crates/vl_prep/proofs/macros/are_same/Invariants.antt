use Rattle.std.proofs.Common.{◌≡◌, length}
use Rattle.vl_prep.proofs.macros.are_same.Given as goal

abbrev pub invariant-loop-token : goal.invariant-loop-token
invariant-loop-token l = l.left ≡ l.right → l.tokens ≡ l.others

abbrev pub decreases-loop-token : goal.decreases-loop-token
decreases-loop-token l = length l.left
