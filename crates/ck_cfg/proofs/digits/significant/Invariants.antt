use Rattle.std.proofs.Common.{◌≡◌, length}
use Rattle.ck_cfg.specs.Digits.{significant}
use Rattle.ck_cfg.proofs.digits.significant.Given as goal

abbrev pub invariant-loop-rest : goal.invariant-loop-rest
invariant-loop-rest l = significant l.rest ≡ significant l.digits

abbrev pub decreases-loop-rest : goal.decreases-loop-rest
decreases-loop-rest l = length l.rest
