use Rattle.std.proofs.Common.{length}
use Rattle.vcd_text.proofs.Ends.{IsRead}
use Rattle.vcd_text.proofs.read.read_vcd.Given as goal

abbrev pub invariant-loop-line : goal.invariant-loop-line
invariant-loop-line l = IsRead l.bytes l.rest l.place l.reader

abbrev pub decreases-loop-line : goal.decreases-loop-line
decreases-loop-line l = length l.rest
