use Rattle.std.proofs.Common.{◌≡◌, ℕ, length}
use Rattle.std.specs.Prelude.{unwrap_or}
use Rattle.fv_lines.specs.Words.{lines}
use Rattle.ck_cfg.specs.Channels.{nret_among, stated_nret}
use Rattle.ck_cfg.specs.Line.{counted_from, counted_lines}
use Rattle.ck_cfg.proofs.channels.stated_nret.Given as goal

abbrev pub invariant-loop-rest : goal.invariant-loop-rest
invariant-loop-rest l =
    (n : ℕ) × (unwrap_or (nret_among l.inside (counted_from n (lines l.rest))) 1 ≡ stated_nret (counted_lines l.bytes))

abbrev pub decreases-loop-rest : goal.decreases-loop-rest
decreases-loop-rest l = length l.rest
