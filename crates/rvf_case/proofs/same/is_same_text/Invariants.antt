use Rattle.std.proofs.Common.{◌≡◌, length}
use Rattle.rvf_case.specs.Steps.{kind_lines}
use Rattle.rvf_case.specs.Texts.{is_same_text}
use Rattle.rvf_case.proofs.Sames.{same_bytes}
use Rattle.rvf_case.proofs.same.is_same_text.Given as goal

abbrev pub invariant-loop-line : goal.invariant-loop-line
invariant-loop-line l =
    same_bytes (kind_lines l.left l.kind) (kind_lines l.right l.other) ≡ is_same_text l.config l.kind l.other

abbrev pub decreases-loop-line : goal.decreases-loop-line
decreases-loop-line l = length l.left
