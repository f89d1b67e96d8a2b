-- Between functions: A design's names and drivers as sets of bits of numbered cells. Rule of this project.
use Rattle.std.specs.Prelude.{◌≡◌, ℕ, suc, ◌<◌, ◌≤◌, List, length, Bool, true, false, ◌&&◌, nat_lt, Some, slice_get}
use Rattle.vl_size.specs.declared.decl.Decl.{Decl}
use Rattle.vl_mean.specs.FlatLaw.{is_net}
use Rattle.vl_mean.specs.declared.driver.Driver.{Driver}
use Rattle.fv_bit_sets.specs.declared.step.Step.{Step}
use Rattle.fv_bit_sets.specs.Cells.{has, IsBare}
use Rattle.vl_flow_cells.specs.Numbered.{first_cell}
use Rattle.vl_flow_order.specs.CellGroups.{IsCellAt}
use Rattle.vl_flow_order.specs.Footprints.{AreFootprintsOf}
use Rattle.vl_flow_effects.specs.declared.assigned.Assigned.{Assigned}
use Rattle.vl_flow_effects.specs.Assigning.{AreAssignedBy}
use Rattle.vl_flow_check.specs.declared.layout.Layout.{Layout}
use Rattle.vl_flow_check.specs.declared.layout.Names.{Names}
use Rattle.vl_flow_check.specs.declared.layout.Names.TheVariants as n
use Rattle.vl_flow_check.specs.declared.layout.Span.{Span}

-- which names count
abbrev pub counts : Names → Decl → Bool
counts n.All d = true
counts n.Nets d = is_net d

-- all bits of the cells of the names that count
abbrev pub AreBitsOf : List Decl → (Decl → Bool) → List Step → Type 0
AreBitsOf ds test made =
    (place cell bit : ℕ) (d : Decl) → slice_get ds place ≡ Some d → IsCellAt ds cell place
    → has made cell bit ≡ (test d && nat_lt bit d.width)

abbrev pub AreAllBits : List Decl → List Step → Type 0
AreAllBits ds made = AreBitsOf ds (counts n.All) made

-- of the name at one place
pub record AreBitsAt (ds : List Decl) (test : Decl → Bool) (at : ℕ) (made : List Step) : Type 0 where
  pub inside : (cell bit : ℕ) (d : Decl) → slice_get ds at ≡ Some d → IsCellAt ds cell at
      → has made cell bit ≡ (test d && nat_lt bit d.width)
  pub outside : (place cell bit : ℕ) → IsCellAt ds cell place → (place ≡ at → ⊥) → has made cell bit ≡ false

-- each cell has all bits of the name, where that counts, and no other cell has one
pub record IsFilled (s : Span) (counted : Bool) (d : Decl) (made : List Step) : Type 0 where
  pub inside : (cell bit : ℕ) → s.first ≤ cell → cell < s.past → has made cell bit ≡ (counted && nat_lt bit d.width)
  pub before : (cell : ℕ) → cell < s.first → IsBare made cell
  pub behind : (cell : ℕ) → s.past ≤ cell → IsBare made cell

-- the names that each driver assigns
pub record AreTheirs (ds : List Decl) (assigned : List Assigned) (drivers : List Driver) : Type 0 where
  pub size : length assigned ≡ length drivers
  pub each : (i : ℕ) (a : Assigned) (x : Driver) → slice_get assigned i ≡ Some a → slice_get drivers i ≡ Some x
      → AreAssignedBy ds a x.what

pub record IsLayoutOf (ds : List Decl) (drivers : List Driver) (l : Layout) : Type 0 where
  pub footprints : AreFootprintsOf ds l.groups l.footprints drivers
  pub all : AreAllBits ds l.all
  pub assigned : AreTheirs ds l.assigned drivers

pub record IsSpan (ds : List Decl) (place : ℕ) (s : Span) : Type 0 where
  pub first : s.first ≡ first_cell ds place
  pub past : s.past ≡ first_cell ds (suc place)

-- under the number of each name's place bit 0 tells whether the test holds of it, and no other bit is there
pub record Marks (ds : List Decl) (made : List Step) (test : Decl → Bool) : Type 0 where
  pub is : (place : ℕ) (d : Decl) → slice_get ds place ≡ Some d → has made place 0 ≡ test d
  pub known : (place : ℕ) → has made place 0 ≡ true → place < length ds
  pub alone : (place bit : ℕ) → 0 < bit → has made place bit ≡ false
