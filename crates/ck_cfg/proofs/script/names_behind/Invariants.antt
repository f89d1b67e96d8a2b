use Rattle.std.proofs.Common.{◌≡◌, length}
use Rattle.fv_lines.specs.Words.{words}
use Rattle.ck_cfg.specs.Scripts.{names_behind}
use Rattle.ck_cfg.proofs.script.names_behind.Given as goal

abbrev pub invariant-loop-word : goal.invariant-loop-word
invariant-loop-word l = names_behind (words l.rest) ≡ names_behind (words l.text)

abbrev pub decreases-loop-word : goal.decreases-loop-word
decreases-loop-word l = length l.rest
