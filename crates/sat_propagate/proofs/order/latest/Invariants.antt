use Rattle.sat_propagate.specs.Watches.{Latest}
use Rattle.sat_propagate.proofs.order.latest.Given as goal

-- so many literals were looked at
abbrev pub invariant-loop-place : goal.invariant-loop-place
invariant-loop-place l = Latest l.trail l.lits l.taken l.place l.best
