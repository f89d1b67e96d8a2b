use Rattle.std.proofs.Common.{◌≡◌, ◌++◌}
use Rattle.vcd_dump.specs.Digits.{code}
use Rattle.vcd_dump.proofs.digits.put_code.Given as goal

-- what was put, with the code of what is left, is the code of all
abbrev pub invariant-loop-rest : goal.invariant-loop-rest
invariant-loop-rest l = l.out.items ++ code l.rest ≡ l.initial.out.items ++ code l.index

abbrev pub decreases-loop-rest : goal.decreases-loop-rest
decreases-loop-rest l = l.rest
