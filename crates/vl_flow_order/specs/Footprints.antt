-- Between functions: What drivers read and drive, as sets of bits of numbered cells. Rule of this project.
use Rattle.std.specs.Prelude.{◌≡◌, ℕ, List, length, Some, slice_get, true}
use Rattle.vl_size.specs.declared.decl.Decl.{Decl}
use Rattle.vl_mean.specs.declared.driver.Driver.{Driver}
use Rattle.vl_mean.specs.declared.driver.DriverKind.{DriverKind}
use Rattle.vl_flow_spec.specs.Drivers.{is_clocked, needed_by, driven_by}
use Rattle.fv_bit_sets.specs.Cells.{has}
use Rattle.vl_flow_cells.specs.Numbered.{all_cells, Shows}
use Rattle.vl_flow_order.specs.declared.footprint.Footprint.{Footprint}
use Rattle.vl_flow_order.specs.declared.reads_groups.Groups.{Groups}
use Rattle.vl_flow_order.specs.CellGroups.{AreGroupsOf}

pub record IsFootprintOf (ds : List Decl) (f : Footprint) (x : DriverKind) : Type 0 where
  pub clocked : f.is_clocked ≡ is_clocked x
  pub needs : Shows ds (has f.needs) (needed_by ds x)
  pub drives : Shows ds (has f.drives) (driven_by ds x)

-- of the drivers in their order, each of which drives bits of declared cells alone
pub record AreFootprintsOf (ds : List Decl) (groups : Groups) (fs : List Footprint) (drivers : List Driver)
    : Type 0 where
  pub size : length fs ≡ length drivers
  pub each : (i : ℕ) (f : Footprint) (x : Driver) → slice_get fs i ≡ Some f → slice_get drivers i ≡ Some x
      → IsFootprintOf ds f x.what
  pub groups_are : AreGroupsOf ds groups
  pub declared : (i : ℕ) (x : Driver) (n : List ℕ) (k : ℕ) → slice_get drivers i ≡ Some x
      → driven_by ds x.what n k ≡ true → (c : ℕ) × (slice_get (all_cells ds) c ≡ Some n)
