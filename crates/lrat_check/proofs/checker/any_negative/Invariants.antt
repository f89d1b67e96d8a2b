use Rattle.std.proofs.Common.{◌≡◌, drop}
use Rattle.std.specs.List.{list_any}
use Rattle.lrat_check.specs.Steps.{is_negative}
use Rattle.lrat_check.proofs.checker.any_negative.Given as goal

abbrev pub invariant-loop-hint : goal.invariant-loop-hint
invariant-loop-hint l = list_any is_negative (drop l.hint-index l.hints) ≡ list_any is_negative l.hints
