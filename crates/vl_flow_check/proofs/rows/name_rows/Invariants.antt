use Rattle.std.proofs.Common.{List, take}
use Rattle.vl_size.specs.declared.decl.Decl.{Decl}
use Rattle.vl_mean.specs.declared.driver.Driver.{Driver}
use Rattle.vl_flow_check.specs.Layouts.{IsLayoutOf}
use Rattle.vl_flow_check.specs.Rows.{AreNameRows, picked}
use Rattle.vl_flow_check.proofs.rows.name_rows.Given as goal

abbrev pub invariant-loop-at : goal.invariant-loop-at
invariant-loop-at l =
    (ds : List Decl) (drivers : List Driver) → IsLayoutOf ds drivers l.layout
    → AreNameRows ds (picked l.which l.kind) l.rows.items (take l.at drivers)
