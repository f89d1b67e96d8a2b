use Rattle.std.proofs.Common.{◌≡◌, ◌++◌, drop}
use Rattle.std.specs.List.{flat_map}
use Rattle.ck_cover.specs.Targets.{hit_of, hit_targets}
use Rattle.ck_cover.proofs.list.put_hits.Given as goal

abbrev pub invariant-loop-check : goal.invariant-loop-check
invariant-loop-check l =
    l.all ++ flat_map hit_of (drop l.check-index l.checks) ≡ l.initial.all ++ hit_targets l.checks
