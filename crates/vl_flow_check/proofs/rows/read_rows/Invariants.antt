use Rattle.std.proofs.Common.{List, take}
use Rattle.vl_size.specs.declared.decl.Decl.{Decl}
use Rattle.vl_mean.specs.declared.driver.Driver.{Driver}
use Rattle.vl_flow_spec.specs.Drivers.{needed_by}
use Rattle.vl_flow_spec.specs.Refusals.{has_bit}
use Rattle.vl_flow_check.specs.Layouts.{IsLayoutOf}
use Rattle.vl_flow_check.specs.Rows.{AreNameRows}
use Rattle.vl_flow_check.proofs.rows.read_rows.Given as goal

abbrev pub invariant-loop-footprint : goal.invariant-loop-footprint
invariant-loop-footprint l =
    (ds : List Decl) (drivers : List Driver) → IsLayoutOf ds drivers l.layout
    → AreNameRows ds (λ x. has_bit (needed_by ds x.what)) l.rows.items (take l.footprint-index drivers)
