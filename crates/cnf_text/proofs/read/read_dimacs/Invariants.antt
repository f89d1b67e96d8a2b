use Rattle.std.proofs.Common.{◌≡◌, length}
use Rattle.fv_lines.specs.Words.{lines}
use Rattle.cnf_text.specs.Dimacs.{read_lines, formula_of}
use Rattle.cnf_text.proofs.read.read_dimacs.Given as goal

abbrev pub invariant-loop-rest : goal.invariant-loop-rest
invariant-loop-rest l = read_lines l.line (lines l.rest) ≡ formula_of l.bytes

abbrev pub decreases-loop-rest : goal.decreases-loop-rest
decreases-loop-rest l = length l.rest
