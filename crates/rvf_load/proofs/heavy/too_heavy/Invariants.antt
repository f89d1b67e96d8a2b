use Rattle.std.proofs.Common.{◌≡◌, drop}
use Rattle.rvf_load.specs.Loads as loads
use Rattle.rvf_load.proofs.heavy.too_heavy.Given as goal

abbrev pub invariant-loop-place : goal.invariant-loop-place
invariant-loop-place l =
    loads.too_heavy l.weight l.place (drop l.place l.factors) ≡ loads.too_heavy l.weight 0 l.factors
