use Rattle.std.proofs.Common.{take}
use Rattle.fv_lines.specs.Cuts.{HasNo}
use Rattle.fv_lines.proofs.cuts.cut_at.Given as goal

abbrev pub invariant-loop-end : goal.invariant-loop-end
invariant-loop-end l = HasNo l.mark (take l.end l.bytes)
