-- Between functions: What is known of a design's drivers before they are judged. Rule of this project.
use Rattle.std.specs.Prelude.{◌≡◌, List, [], ◌∷◌, ◌++◌}
use Rattle.vl_size.specs.declared.decl.Decl.{Decl}
use Rattle.vl_mean.specs.declared.driver.Driver.{Driver}
use Rattle.vl_flow_spec.specs.Refusals.{latched_by}
use Rattle.vl_flow_cells.specs.Numbering.{IsNumberingOf}
use Rattle.vl_flow_effects.specs.declared.uses.Uses.{Uses}
use Rattle.vl_flow_effects.specs.Assigning.{AreAssignedBy}
use Rattle.vl_flow_effects.specs.Effects.{AreEach}
use Rattle.vl_flow_order.specs.Footprints.{IsFootprintOf}
use Rattle.vl_flow_check.specs.Layouts.{IsLayoutOf}
use Rattle.vl_flow_check.specs.Rows.{AreSets}
use Rattle.vl_flow.specs.declared.analysis.Analysis.{Analysis}
use Rattle.vl_flow.specs.declared.drivers.DriverSets.{DriverSets}

-- what the driver does stands behind what the others do
pub record AddsUses (before : DriverSets) (uses : Uses) (after : DriverSets) : Type 0 where
  pub footprints_are : after.footprints ≡ before.footprints ++ uses.footprint ∷ []
  pub latched_are : after.latched ≡ before.latched ++ uses.latched ∷ []
  pub assigned_are : after.assigned ≡ before.assigned ++ uses.assigned ∷ []

-- they are what these drivers do
pub record AreSetsOf (ds : List Decl) (drivers : List Driver) (sets : DriverSets) : Type 0 where
  pub footprints_are : AreEach (λ f x. IsFootprintOf ds f x.what) sets.footprints drivers
  pub latched_are : AreSets ds (latched_by ds) sets.latched drivers
  pub assigned_are : AreEach (λ a x. AreAssignedBy ds a x.what) sets.assigned drivers

-- the names' numbers, and what the drivers do to their bits
pub record IsAnalysisOf (ds : List Decl) (drivers : List Driver) (x : Analysis) : Type 0 where
  pub numbering_is : IsNumberingOf ds x.numbering
  pub layout_is : IsLayoutOf ds drivers x.layout
  pub latched_are : AreSets ds (latched_by ds) x.latched drivers
