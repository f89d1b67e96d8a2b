use Rattle.std.proofs.Common.{length}
use Rattle.wn_opt.specs.Parts.{HasParts}
use Rattle.wn_opt.proofs.frame.add_regs.Given as goal

abbrev pub invariant-loop-index : goal.invariant-loop-index
invariant-loop-index l = HasParts l.net l.part (length l.net.inputs) l.index 0
