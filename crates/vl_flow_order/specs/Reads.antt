-- Between functions: Which drivers read bits that others assign. Rule of this project.
use Rattle.std.specs.Prelude.{◌≡◌, ℕ, ◌<◌, ◌≤◌, List, length, slice_get, true, false, Some}
use Rattle.fv_bit_sets.specs.declared.step.Step.{Step}
use Rattle.fv_bit_sets.specs.Cells.{has}
use Rattle.fv_graph.specs.Graph.{Leads}
use Rattle.vl_flow_order.specs.declared.footprint.Footprint.{Footprint}
use Rattle.vl_flow_order.specs.declared.reads_groups.Groups.{Groups}
use Rattle.vl_flow_order.specs.declared.visit.Visit.{Visit}
use Rattle.vl_flow_order.specs.Edges.{Grows}

abbrev pub AreDrivers : List Footprint → List ℕ → Type 0
AreDrivers xs row = (m j : ℕ) → slice_get row m ≡ Some j → j < length xs

-- the driver assigns a bit that is needed, of a cell that is visited
pub record Drives (needs : List Step) (xs : List Footprint) (v : Visit) (j : ℕ) : Type 0 where
  pub driver : Footprint
  pub is : slice_get xs j ≡ Some driver
  pub cell : ℕ
  pub bit : ℕ
  pub from : v.first ≤ cell
  pub before : cell < v.past
  pub needed : has needs cell bit ≡ true
  pub driven : has driver.drives cell bit ≡ true

-- the reader leads to the driver where they have a bit in common in the group
pub record AddsRead (i : ℕ) (needs : List Step) (xs : List Footprint) (j : ℕ) (v : Visit)
    (before after : List (List ℕ)) : Type 0 where
  pub grows : Grows (λ a b. (a ≡ i) × (b ≡ j) × Drives needs xs v b) before after
  pub all : (y : Footprint) (cell bit : ℕ) → slice_get xs j ≡ Some y → v.first ≤ cell → cell < v.past
      → has needs cell bit ≡ true → has y.drives cell bit ≡ true → Leads after i j

-- the same for the first drivers of a row
pub record AddsRow (i : ℕ) (needs : List Step) (xs : List Footprint) (row : List ℕ) (count : ℕ) (v : Visit)
    (before after : List (List ℕ)) : Type 0 where
  pub grows : Grows (λ a b. (a ≡ i) × ((m : ℕ) × (slice_get row m ≡ Some b)) × Drives needs xs v b) before after
  pub all : (m j : ℕ) (y : Footprint) (cell bit : ℕ) → m < count → slice_get row m ≡ Some j
      → slice_get xs j ≡ Some y → v.first ≤ cell → cell < v.past → has needs cell bit ≡ true
      → has y.drives cell bit ≡ true → Leads after i j

-- it is one of those of a visited group
pub record DrivesInGroup (needs : List Step) (xs : List Footprint) (buckets : List (List ℕ)) (visits : List Visit)
    (j : ℕ) : Type 0 where
  pub place : ℕ
  pub visit : Visit
  pub at : slice_get visits place ≡ Some visit
  pub among : Leads buckets visit.group j
  pub drives : Drives needs xs visit j

-- the same for the first visited groups
pub record AddsVisits (i : ℕ) (needs : List Step) (xs : List Footprint) (buckets : List (List ℕ))
    (visits : List Visit) (count : ℕ) (before after : List (List ℕ)) : Type 0 where
  pub grows : Grows (λ a b. (a ≡ i) × DrivesInGroup needs xs buckets visits b) before after
  pub all : (m : ℕ) (v : Visit) (j : ℕ) (y : Footprint) (cell bit : ℕ) → m < count → slice_get visits m ≡ Some v
      → Leads buckets v.group j → slice_get xs j ≡ Some y → v.first ≤ cell → cell < v.past
      → has needs cell bit ≡ true → has y.drives cell bit ≡ true → Leads after i j

-- ---- who reads from whom

-- neither is clocked, and the reader needs a bit that the driver assigns, of a cell that has a group
pub record ReadsAt (groups : Groups) (xs : List Footprint) (i j : ℕ) : Type 0 where
  pub reader : Footprint
  pub driver : Footprint
  pub reader_is : slice_get xs i ≡ Some reader
  pub driver_is : slice_get xs j ≡ Some driver
  pub settled : reader.is_clocked ≡ false
  pub assigning : driver.is_clocked ≡ false
  pub cell : ℕ
  pub bit : ℕ
  pub known : cell < length groups.of_cells
  pub needed : has reader.needs cell bit ≡ true
  pub driven : has driver.drives cell bit ≡ true

-- the reader leads to each driver that it reads from, and to no other
pub record AddsReader (groups : Groups) (xs : List Footprint) (i : ℕ) (before after : List (List ℕ)) : Type 0 where
  pub grows : Grows (λ a b. (a ≡ i) × ReadsAt groups xs a b) before after
  pub all : (j : ℕ) → ReadsAt groups xs i j → Leads after i j

-- of the first readers
pub record AreReaders (groups : Groups) (xs : List Footprint) (count : ℕ) (graph : List (List ℕ)) : Type 0 where
  pub size : length graph ≡ length xs
  pub sound : (i j : ℕ) → Leads graph i j → ReadsAt groups xs i j
  pub all : (i j : ℕ) → i < count → ReadsAt groups xs i j → Leads graph i j

-- each leads to those that it reads from, and to no other
pub record IsReadingGraph (groups : Groups) (xs : List Footprint) (graph : List (List ℕ)) : Type 0 where
  pub size : length graph ≡ length xs
  pub sound : (i j : ℕ) → Leads graph i j → ReadsAt groups xs i j
  pub all : (i j : ℕ) → ReadsAt groups xs i j → Leads graph i j
