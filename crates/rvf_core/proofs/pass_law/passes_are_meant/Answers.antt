use Rattle.rvf_core.proofs.Passes.{passes}
use Rattle.rvf_core.proofs.pass_law.passes_are_meant.Goals as goal

pub returns : goal.returns
returns c = passes
