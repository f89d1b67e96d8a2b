use Rattle.std.proofs.Common.{◌≡◌, length}
use Rattle.fv_lines.specs.Words.{lines}
use Rattle.ck_cfg.specs.Line.{counted_from, counted_lines}
use Rattle.ck_cfg.specs.Reading.{with_lines}
use Rattle.ck_cfg.proofs.reader.Reader.take_lines.Given as goal

abbrev pub invariant-loop-rest : goal.invariant-loop-rest
invariant-loop-rest l =
    with_lines l.self (counted_from l.line (lines l.rest)) ≡ with_lines l.initial.self (counted_lines l.bytes)

abbrev pub decreases-loop-rest : goal.decreases-loop-rest
decreases-loop-rest l = length l.rest
