use Rattle.vl_flow_check.specs.Layouts.{counts}
use Rattle.vl_flow_check.proofs.Layouts.{AreParts}
use Rattle.vl_flow_check.proofs.layout.bits_of_names.Given as goal

abbrev pub invariant-loop-place : goal.invariant-loop-place
invariant-loop-place l = AreParts l.decls (counts l.names) l.parts.items l.place
