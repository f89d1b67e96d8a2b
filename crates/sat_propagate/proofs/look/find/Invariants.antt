use Rattle.sat_trail.specs.Trail.{true_codes}
use Rattle.sat_propagate.specs.Watching.{NoneFrom}
use Rattle.sat_propagate.proofs.look.find.Given as goal

-- the literals so far are false or the other one
abbrev pub invariant-loop-k : goal.invariant-loop-k
invariant-loop-k l = NoneFrom (true_codes l.trail) l.clause l.other l.k
