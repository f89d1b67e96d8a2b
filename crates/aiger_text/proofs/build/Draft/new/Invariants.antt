use Rattle.aiger_text.specs.Built.{Begins}
use Rattle.aiger_text.proofs.build.Draft.new.Given as goal

abbrev pub invariant-loop-input : goal.invariant-loop-input
invariant-loop-input l = Begins l.input l.nodes l.draft.aig l.draft.lits.items
