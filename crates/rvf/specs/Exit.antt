-- Between functions: What the exit code of the program means. Rule of this project.
use Rattle.std.specs.Prelude.{ℕ, ◌≡◌}
use Rattle.rvf_core.specs.Status.{code_of}
use Rattle.rvf_core.specs.Statuses.{Status}
use Rattle.rvf_core.specs.Run.{Run, Answers, IsExact}

-- the code is that of a status which has its cause in the run, and the cause its status
pub record Exits (code : ℕ) (r : Run) : Type 0 where
  pub status : Status
  pub code_is : code ≡ code_of status
  pub answers : Answers status r
  pub exact : IsExact status r
