use Rattle.std.proofs.Common.{length}
use Rattle.wn_opt.specs.Parts.{HasParts}
use Rattle.wn_opt.proofs.frame.add_mems.Given as goal

abbrev pub invariant-loop-index : goal.invariant-loop-index
invariant-loop-index l = HasParts l.net l.part (length l.net.inputs) (length l.net.regs) l.index
