use Rattle.std.proofs.Common.{◌≡◌, length}
use Rattle.fv_lines.specs.Words.{words}
use Rattle.ck_cfg.specs.Scripts.{with_files}
use Rattle.ck_cfg.proofs.reader.Reader.take_files.Given as goal

abbrev pub invariant-loop-name : goal.invariant-loop-name
invariant-loop-name l = with_files l.self (words l.rest) ≡ with_files l.initial.self (words l.names)

abbrev pub decreases-loop-name : goal.decreases-loop-name
decreases-loop-name l = length l.rest
