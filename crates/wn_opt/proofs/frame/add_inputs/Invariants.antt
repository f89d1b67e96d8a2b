use Rattle.wn_opt.specs.Parts.{HasParts}
use Rattle.wn_opt.proofs.frame.add_inputs.Given as goal

abbrev pub invariant-loop-index : goal.invariant-loop-index
invariant-loop-index l = HasParts l.net l.part l.index 0 0
