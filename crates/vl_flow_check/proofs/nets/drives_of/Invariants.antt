use Rattle.std.proofs.Common.{List, take}
use Rattle.vl_size.specs.declared.decl.Decl.{Decl}
use Rattle.vl_mean.specs.declared.driver.Driver.{Driver}
use Rattle.vl_flow_spec.specs.Drivers.{driven_by}
use Rattle.vl_flow_check.specs.Layouts.{IsLayoutOf}
use Rattle.vl_flow_check.specs.Rows.{AreSets}
use Rattle.vl_flow_check.proofs.nets.drives_of.Given as goal

abbrev pub invariant-loop-footprint : goal.invariant-loop-footprint
invariant-loop-footprint l =
    (ds : List Decl) (drivers : List Driver) → IsLayoutOf ds drivers l.layout
    → AreSets ds (driven_by ds) l.sets.items (take l.footprint-index drivers)
