use Rattle.std.proofs.Common.{drop, ◌↔◌}
use Rattle.sat_search.specs.Judging.{AreFit}
use Rattle.sat_search.proofs.judging.are_fit.Given as goal

abbrev pub invariant-loop-step : goal.invariant-loop-step
invariant-loop-step l = AreFit l.vars (drop l.step-index l.steps) ↔ AreFit l.vars l.steps
