use Rattle.std.proofs.Common.{◌≡◌, drop}
use Rattle.rvf_case.specs.Steps.{kind_lines}
use Rattle.rvf_case.proofs.same.next_line.Given as goal

abbrev pub invariant-loop-index : goal.invariant-loop-index
invariant-loop-index l = kind_lines (drop l.index l.lines) l.kind ≡ kind_lines l.lines l.kind
