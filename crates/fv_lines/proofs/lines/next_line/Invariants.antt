use Rattle.std.proofs.Common.{◌≡◌, ◌-◌, ◌≤◌, length, take, drop}
use Rattle.fv_lines.specs.Words.{lines}
use Rattle.fv_lines.proofs.Glue.{glue}
use Rattle.fv_lines.proofs.lines.next_line.Given as goal

abbrev pub invariant-loop-end : goal.invariant-loop-end
invariant-loop-end l =
    (l.end ≤ length l.bytes) × (lines l.bytes ≡ glue (take l.end l.bytes) (lines (drop l.end l.bytes)))

abbrev pub decreases-loop-end : goal.decreases-loop-end
decreases-loop-end l = length l.bytes - l.end
