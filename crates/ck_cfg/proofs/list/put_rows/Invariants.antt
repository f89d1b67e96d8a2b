use Rattle.std.proofs.Common.{◌≡◌, ◌++◌, drop}
use Rattle.std.specs.List.{flat_map}
use Rattle.ck_cfg.specs.declared.kind.CheckKind.TheVariants.{Insn}
use Rattle.ck_cfg.specs.Checks.{row_checks, kind_checks}
use Rattle.ck_cfg.proofs.list.put_rows.Given as goal

abbrev pub invariant-loop-row : goal.invariant-loop-row
invariant-loop-row l = l.checks ++ flat_map (row_checks l.config) (drop l.row-index l.row-items) ≡ l.initial.checks
    ++ kind_checks l.config Insn
