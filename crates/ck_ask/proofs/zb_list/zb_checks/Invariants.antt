use Rattle.std.proofs.Common.{◌≡◌, ◌++◌, drop}
use Rattle.std.specs.List.{flat_map}
use Rattle.ck_ask.specs.ZbChecks.{zb_row_checks, zb_checks_of}
use Rattle.ck_ask.proofs.zb_list.zb_checks.Given as goal

abbrev pub invariant-loop-row : goal.invariant-loop-row
invariant-loop-row l =
    l.made ++ flat_map (zb_row_checks l.checks l.channels) (drop l.row-index l.row-items)
    ≡ zb_checks_of l.checks l.channels
