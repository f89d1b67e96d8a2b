-- Between functions: A run of cells that have the same bits. Rule of this project.
use Rattle.std.specs.Prelude.{◌≡◌, ℕ, ◌≤◌, List, None, Option}
use Rattle.fv_bit_sets.specs.declared.how.How.{How}
use Rattle.fv_bit_sets.specs.declared.run.Run.{Run}
use Rattle.fv_bit_sets.specs.declared.step.Step.{Step}
use Rattle.fv_bit_sets.specs.Cells.{has, is_set, mask_from, IsBefore}
use Rattle.fv_bit_sets.specs.Ways.{way_of}

-- The cell and all behind it have the mask, up to the run's end. The cells before the first step have the mask that is
-- given, and all stand before `past`.
pub record IsRunOf (mask : ℕ) (past : Option ℕ) (steps : List Step) (cell : ℕ) (run : Run) : Type 0 where
  pub inside : IsBefore cell run.past
  pub within : (c : ℕ) → IsBefore c run.past → IsBefore c past
  pub same : (c : ℕ) → cell ≤ c → IsBefore c run.past → mask_from mask steps c ≡ run.mask

-- from the cell of two runs on, up to there, the bits that are taken are those that are taken of the runs
abbrev pub KeepsTo : How → Run → Run → Option ℕ → Type 0
KeepsTo how left right past =
    (first second : List Step) (at cell bit : ℕ) → IsRunOf 0 None first at left → IsRunOf 0 None second at right
    → at ≤ cell → IsBefore cell past
    → way_of how (has first cell bit) (has second cell bit)
    ≡ way_of how (is_set left.mask bit) (is_set right.mask bit)
