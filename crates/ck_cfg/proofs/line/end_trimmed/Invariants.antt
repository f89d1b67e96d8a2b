use Rattle.std.proofs.Common.{◌≡◌, length}
use Rattle.ck_cfg.specs.Line.{end_trimmed}
use Rattle.ck_cfg.proofs.line.end_trimmed.Given as goal

abbrev pub invariant-loop-rest : goal.invariant-loop-rest
invariant-loop-rest l = end_trimmed l.rest ≡ end_trimmed l.line

abbrev pub decreases-loop-rest : goal.decreases-loop-rest
decreases-loop-rest l = length l.rest
