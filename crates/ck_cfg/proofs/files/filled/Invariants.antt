use Rattle.std.proofs.Common.{◌≡◌, ◌++◌, length}
use Rattle.ck_cfg.specs.Files.{filled}
use Rattle.ck_cfg.proofs.files.filled.Given as goal

abbrev pub invariant-loop-rest : goal.invariant-loop-rest
invariant-loop-rest l = l.out.items ++ filled l.core l.basedir l.rest ≡ filled l.core l.basedir l.name

abbrev pub decreases-loop-rest : goal.decreases-loop-rest
decreases-loop-rest l = length l.rest
