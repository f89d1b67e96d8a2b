use Rattle.std.proofs.Common.{◌≡◌, ◌++◌, drop}
use Rattle.std.specs.List.{flat_map}
use Rattle.ck_cover.specs.Targets.{any_of, any_targets}
use Rattle.ck_cover.proofs.list.put_any.Given as goal

abbrev pub invariant-loop-kind : goal.invariant-loop-kind
invariant-loop-kind l =
    l.all ++ flat_map (any_of l.checks) (drop l.kind-index l.kind-items) ≡ l.initial.all ++ any_targets l.checks
