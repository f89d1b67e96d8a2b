use Rattle.std.proofs.Common.{◌≡◌, length}
use Rattle.ck_cfg.specs.Line.{front_trimmed}
use Rattle.ck_cfg.proofs.line.front_trimmed.Given as goal

abbrev pub invariant-loop-rest : goal.invariant-loop-rest
invariant-loop-rest l = front_trimmed l.rest ≡ front_trimmed l.line

abbrev pub decreases-loop-rest : goal.decreases-loop-rest
decreases-loop-rest l = length l.rest
