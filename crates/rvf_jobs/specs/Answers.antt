-- Between functions: The answers of a batch of jobs. Rule of this project.
use Rattle.std.specs.Prelude.{◌≡◌, ℕ, ◌+◌, List, length, Some, slice_get}

-- as many answers as jobs, and each is one of the job at its place
pub record AreAnswers {A : Type 0} (IsAnswer : ℕ → A → Type 0) (first count : ℕ)
    (answers : List A) : Type 0 where
  pub whole : length answers ≡ count
  pub each : (i : ℕ) (answer : A) → slice_get answers i ≡ Some answer → IsAnswer (first + i) answer
