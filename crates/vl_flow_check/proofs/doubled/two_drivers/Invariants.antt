use Rattle.vl_flow_check.proofs.Lowest.{AreSingle}
use Rattle.vl_flow_check.proofs.doubled.two_drivers.Given as goal

abbrev pub invariant-loop-place : goal.invariant-loop-place
invariant-loop-place l = AreSingle l.decls l.drivers l.place
