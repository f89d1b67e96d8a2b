-- Between functions: Sets of bits that are what drivers read and assign. Rule of this project.
use Rattle.std.specs.Prelude.{◌≡◌, List}
use Rattle.vl_size.specs.declared.decl.Decl.{Decl}
use Rattle.vl_mean.specs.declared.driver.DriverKind.{DriverKind}
use Rattle.fv_bit_sets.specs.Cells.{has}
use Rattle.vl_flow_spec.specs.Drivers.{is_clocked, needed_by, driven_by}
use Rattle.vl_flow_spec.specs.Refusals.{latched_by}
use Rattle.vl_flow_cells.specs.Numbered.{Shows}
use Rattle.vl_flow_effects.specs.declared.uses.Uses.{Uses}
use Rattle.vl_flow_effects.specs.Assigning.{AreAssignedBy}

-- What a driver reads before it has surely assigned it, what it may assign, what a combinational block doesn't assign
-- on each path, and the names that blocks assign at once and for their end.
pub record AreUsesOf (ds : List Decl) (u : Uses) (x : DriverKind) : Type 0 where
  pub clocked : u.footprint.is_clocked ≡ is_clocked x
  pub needs : Shows ds (has u.footprint.needs) (needed_by ds x)
  pub drives : Shows ds (has u.footprint.drives) (driven_by ds x)
  pub latched : Shows ds (has u.latched) (latched_by ds x)
  pub assigned : AreAssignedBy ds u.assigned x
