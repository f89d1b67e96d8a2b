use Rattle.ck_design.proofs.TracesWhole.{traces}
use Rattle.ck_design.proofs.traces_law.traces_are_the_designs.Goals as goal

pub returns : goal.returns
returns c = traces
