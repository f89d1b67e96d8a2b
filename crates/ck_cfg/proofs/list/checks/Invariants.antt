use Rattle.std.proofs.Common.{◌≡◌, ◌++◌, drop}
use Rattle.std.specs.List.{flat_map}
use Rattle.ck_cfg.specs.Checks.{kind_checks, listed_checks}
use Rattle.ck_cfg.proofs.list.checks.Given as goal

abbrev pub invariant-loop-kind : goal.invariant-loop-kind
invariant-loop-kind l =
    l.checks ++ flat_map (kind_checks l.config) (drop l.kind-index l.kind-items) ≡ listed_checks l.config
