-- Meaning: The two halves of an induction on the runs of a design: runs up to a cycle, and maps from any one on without
-- reset. Rule of this project.
use Rattle.std.specs.Prelude.{◌≡◌, ℕ, ◌+◌, ◌<◌, ◌≤◌, Bool, true, false, List, length, slice_index_or}
use Rattle.vl_size.specs.Size.{Values}
use Rattle.vl_mean.specs.Parts.{Part}
use Rattle.vl_mean.specs.Runs.{Each, HasReset, Holds, IsAssumed, IsRun, KeepsOnce, Neighbours, Next}
use Rattle.vl_mean.specs.Scopes.{no_values}

-- the values of all names in a cycle
abbrev pub map_at : List Values → ℕ → Values
map_at run k = slice_index_or run k no_values

-- A property of one map, as a test of it. A run up to j fails it in j: the run meets its assumptions, and its map in j
-- lacks the property.
pub record FailsAt (ps : List Part) (has : Values → Bool) (j : ℕ) (run : List Values) : Type 0 where
  pub is_run : IsRun ps j run
  pub assumed : IsAssumed ps run
  pub fails : has (map_at run j) ≡ false

-- A step run of length k: k + 1 maps, each of which meets the design, neighbours step from one to the next and keep
-- what is chosen once, the reset is 0 in each, and all assumptions hold in each. The first may be any such map. Those
-- before k have the property, and the one in k lacks it.
pub record IsStepRun (ps : List Part) (has : Values → Bool) (k : ℕ) (run : List Values) : Type 0 where
  pub cycles : length run ≡ k + 1
  pub holds : Each (Holds ps) run
  pub steps : Neighbours (Next ps) run
  pub no_reset : Each (HasReset ps 0) run
  pub once : Neighbours (KeepsOnce ps) run
  pub assumed : IsAssumed ps run
  pub before : (j : ℕ) → j < k → has (map_at run j) ≡ true
  pub fails : has (map_at run k) ≡ false

-- Where no run up to a j from 1 to k fails the property in j, and no step run of length k exists, each run up to a j
-- from 1 on that meets its assumptions has the property in j.
abbrev pub NoneFails : Type 0
NoneFails =
    (ps : List Part) (has : Values → Bool) (k : ℕ)
    → ((j : ℕ) (run : List Values) → 1 ≤ j → j ≤ k → FailsAt ps has j run → ⊥)
    → ((run : List Values) → IsStepRun ps has k run → ⊥)
    → (j : ℕ) (run : List Values) → 1 ≤ j → IsRun ps j run → IsAssumed ps run → has (map_at run j) ≡ true
