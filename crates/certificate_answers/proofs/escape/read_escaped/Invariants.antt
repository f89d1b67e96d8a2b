use Rattle.std.proofs.Common.{length}
use Rattle.certificate_answers.proofs.escape.read_escaped.Given as goal

abbrev pub decreases-loop-byte : goal.decreases-loop-byte
decreases-loop-byte l = length l.rest
