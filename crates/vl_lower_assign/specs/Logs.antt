-- Between functions: What a log keeps before cells are written. Rule of this project.
use Rattle.std.specs.Prelude.{ℕ, zero, suc, ◌+◌, ◌<◌, ◌≤◌, List, [], ◌∷◌, ◌++◌, slice_index}
use Rattle.vl_lower_assign.specs.declared.slot.Holder.{Holder}
use Rattle.vl_lower_assign.specs.declared.slot.Holder.TheVariants as holder
use Rattle.vl_lower_assign.specs.declared.change.Change.{Change}

-- so many cells from the first on, as they stand
abbrev pub noted : ℕ → ℕ → List ℕ → List Change
noted first zero cells = []
noted first (suc k) cells =
    noted first k cells ++ record { cell = first + k; node = slice_index cells (first + k) } ∷ []

-- the cells that bits may be of
abbrev pub noted_of : Holder → List ℕ → List Change
noted_of (holder.Cell at) cells = noted at 1 cells
noted_of (holder.Word first count address) cells = noted first count cells
noted_of holder.Nowhere cells = []

-- they are among so many cells
abbrev pub IsWithin : ℕ → Holder → Type 0
IsWithin n (holder.Cell at) = at < n
IsWithin n (holder.Word first count address) = first + count ≤ n
IsWithin n holder.Nowhere = Unit {0}
