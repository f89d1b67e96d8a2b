-- Between functions: The groups of cells of which a set has bits. Rule of this project.
use Rattle.std.specs.Prelude.{◌≡◌, ℕ, ◌<◌, ◌==◌, List, [], ◌∷◌, Bool, slice_get, true, false, ◌&&◌, ◌||◌, Some}
use Rattle.fv_bit_sets.specs.declared.step.Step.{Step}
use Rattle.fv_bit_sets.specs.Cells.{has}
use Rattle.vl_flow_order.specs.declared.reads_groups.Groups.{Groups}
use Rattle.vl_flow_order.specs.declared.visit.Visit.{Visit}
use Rattle.vl_flow_order.specs.Sets.{some_has}

-- the set has a bit of a cell of the group
pub record HasBitOf (groups : Groups) (bits : List Step) (group : ℕ) : Type 0 where
  pub cell : ℕ
  pub bit : ℕ
  pub of : slice_get groups.of_cells cell ≡ Some group
  pub has_it : has bits cell bit ≡ true

-- bit 0 of the cell with a group's number is there exactly where the set has a bit of the group, and no other bit is
pub record AreNamesOf (groups : Groups) (bits made : List Step) : Type 0 where
  pub some : (group : ℕ) → has made group 0 ≡ true → HasBitOf groups bits group
  pub all : (group : ℕ) → HasBitOf groups bits group → has made group 0 ≡ true
  pub alone : (group bit : ℕ) → 0 < bit → has made group bit ≡ false

-- bit 0 of the cell with the number is there alone
abbrev pub IsMark : ℕ → List Step → Type 0
IsMark group made = (c i : ℕ) → has made c i ≡ ((c == group) && (i == 0))

abbrev pub some_visits : List Visit → ℕ → Bool
some_visits [] group = false
some_visits (v ∷ vs) group = (group == v.group) || some_visits vs group

-- the marks of the groups that are visited
abbrev pub AreMarks : List Visit → List (List Step) → Type 0
AreMarks visits marks = (c i : ℕ) → some_has marks c i ≡ (some_visits visits c && (i == 0))
