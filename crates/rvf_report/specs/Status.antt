-- Between functions: How a run ends. Rules of this project.
use Rattle.std.specs.Prelude.{ℕ, Result, Ok, Err}
use Rattle.fv_base.specs.declared.out.OutFault.{OutFault}
use Rattle.fv_base.specs.declared.out.OutFault.TheVariants as out
use Rattle.rvf_report.specs.declared.status.Status.{Status}
use Rattle.rvf_report.specs.declared.status.Status.TheVariants as s

-- the exit code of each status
abbrev pub code_of : Status → ℕ
code_of s.Passed = 0
code_of s.Failing = 1
code_of s.Spent = 2
code_of s.Usage = 3
code_of s.Config = 4
code_of s.Source = 5
code_of s.Absent = 6
code_of s.ReadFault = 7
code_of s.WriteFault = 8
code_of s.Heavy = 9
code_of s.Refused = 10
code_of s.Memory = 11

-- the status of answers
abbrev pub IsOfAnswers : Status → Type 0
IsOfAnswers s.Passed = Unit {0}
IsOfAnswers s.Failing = Unit {0}
IsOfAnswers s.Spent = Unit {0}
IsOfAnswers status = ⊥

-- a status stands where its report was delivered; a delivery that failed, and want of memory, take its place
abbrev pub ends : Result (Unit {0}) OutFault → Status → Status
ends (Ok u) status = status
ends (Err out.Failed) status = s.WriteFault
ends (Err out.Memory) status = s.Memory

-- a fact, unless a file or the output could not be written
abbrev pub UnlessBroken : Status → Type 0 → Type 0
UnlessBroken s.WriteFault P = Unit {0}
UnlessBroken status P = P
