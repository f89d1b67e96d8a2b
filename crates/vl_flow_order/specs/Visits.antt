-- Between functions: The groups of which some bit is in a set. Rule of this project.
use Rattle.std.specs.Prelude.{◌≡◌, ℕ, ◌<◌, ◌≤◌, List, length, slice_get, true, Option, Some}
use Rattle.fv_bit_sets.specs.declared.step.Step.{Step}
use Rattle.fv_bit_sets.specs.Cells.{has, IsBefore}
use Rattle.vl_flow_order.specs.declared.reads_groups.Groups.{Groups}
use Rattle.vl_flow_order.specs.declared.visit.Visit.{Visit}

-- the visit of the cell's group, from the cell on
pub record Stands (groups : Groups) (cell : ℕ) (v : Visit) : Type 0 where
  pub first : v.first ≡ cell
  pub group : slice_get groups.of_cells v.first ≡ Some v.group
  pub past : slice_get groups.ends v.group ≡ Some v.past

abbrev pub HasBit : List Step → ℕ → Type 0
HasBit bits cell = (bit : ℕ) × (has bits cell bit ≡ true)

pub record AreVisits (groups : Groups) (bits : List Step) (visits : List Visit) (past : Option ℕ) : Type 0 where
  pub each : (m : ℕ) (v : Visit) → slice_get visits m ≡ Some v → Stands groups v.first v
  -- the first cell has a bit of the set, and so has the one that comes next
  pub set : (m : ℕ) (v : Visit) → slice_get visits m ≡ Some v → HasBit bits v.first
  pub next : (cell : ℕ) → past ≡ Some cell → HasBit bits cell
  pub all : (cell bit : ℕ) → IsBefore cell past → cell < length groups.of_cells → has bits cell bit ≡ true
      → (m : ℕ) × (v : Visit) × (slice_get visits m ≡ Some v) × (v.first ≤ cell) × (cell < v.past)

abbrev pub AreWithin : ℕ → List Visit → Type 0
AreWithin count visits = (m : ℕ) (v : Visit) → slice_get visits m ≡ Some v → v.group < count
