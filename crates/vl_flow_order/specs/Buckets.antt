-- Between functions: For each group the drivers that assign a bit of it. Rule of this project.
use Rattle.std.specs.Prelude.{◌≡◌, ℕ, ◌<◌, List, length, slice_get, true, false, Some}
use Rattle.fv_bit_sets.specs.Cells.{has}
use Rattle.fv_graph.specs.Graph.{Leads}
use Rattle.vl_flow_order.specs.declared.footprint.Footprint.{Footprint}
use Rattle.vl_flow_order.specs.declared.reads_groups.Groups.{Groups}
use Rattle.vl_flow_order.specs.declared.visit.Visit.{Visit}
use Rattle.vl_flow_order.specs.Edges.{Grows}

-- the first of the visited groups lead to the driver
pub record AddsDriver (before : List (List ℕ)) (visits : List Visit) (count driver : ℕ) (after : List (List ℕ))
    : Type 0 where
  pub grows : Grows (λ a b. b ≡ driver) before after
  pub all : (m : ℕ) (v : Visit) → m < count → slice_get visits m ≡ Some v → Leads after v.group driver

-- those that it drives, unless it is clocked
pub record AddsSettled (groups : Groups) (x : Footprint) (driver : ℕ) (before after : List (List ℕ)) : Type 0 where
  pub grows : Grows (λ a b. (b ≡ driver) × (x.is_clocked ≡ false)) before after
  pub all : (cell bit group : ℕ) → x.is_clocked ≡ false → slice_get groups.of_cells cell ≡ Some group
      → has x.drives cell bit ≡ true → Leads after group driver

-- of the first drivers
pub record AreBuckets (groups : Groups) (xs : List Footprint) (count : ℕ) (buckets : List (List ℕ)) : Type 0 where
  pub size : length buckets ≡ length groups.ends
  pub sound : (group j : ℕ) → Leads buckets group j
      → (y : Footprint) × (slice_get xs j ≡ Some y) × (y.is_clocked ≡ false)
  pub all : (j : ℕ) (y : Footprint) (cell bit group : ℕ) → j < count → slice_get xs j ≡ Some y
      → y.is_clocked ≡ false → slice_get groups.of_cells cell ≡ Some group → has y.drives cell bit ≡ true
      → Leads buckets group j
