use Rattle.std.proofs.Common.{◌≡◌, ◌++◌, drop}
use Rattle.std.specs.List.{flat_map}
use Rattle.lrat_check.specs.Texts.{step_text}
use Rattle.lrat_check.proofs.lrat_write.lrat.Given as goal

abbrev pub invariant-loop-step : goal.invariant-loop-step
invariant-loop-step l = l.out.items ++ flat_map step_text (drop l.step-index l.steps) ≡ flat_map step_text l.steps
