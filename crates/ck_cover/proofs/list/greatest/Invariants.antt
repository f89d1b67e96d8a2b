use Rattle.std.proofs.Common.{◌≡◌, drop}
use Rattle.ck_cover.specs.Targets.{greater, greatest}
use Rattle.ck_cover.proofs.list.greatest.Given as goal

abbrev pub invariant-loop-check : goal.invariant-loop-check
invariant-loop-check l = greater l.best (greatest l.kind (drop l.check-index l.checks)) ≡ greatest l.kind l.checks
