use Rattle.std.proofs.Common.{ap, ◌∙◌, ◌++◌}
use Rattle.std.specs.List.{flat_map}
use Rattle.ck_cfg.specs.Checks.{row_checks}
use Rattle.ck_cfg.proofs.Lists.{rows_kept}
use Rattle.ck_cfg.proofs.list.put_rows.Goals as goal

pub loop-row-init : goal.loop-row-init
loop-row-init c =
    ap (λ x. c.args.checks.now ++ flat_map (row_checks c.args.config.now) x) c.all-row-items.ensures
    ∙ ap (λ x. c.args.checks.now ++ x) (rows_kept c.args.config.now)
