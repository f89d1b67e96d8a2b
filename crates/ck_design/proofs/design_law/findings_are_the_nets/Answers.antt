use Rattle.ck_design.proofs.Found.{nets}
use Rattle.ck_design.proofs.design_law.findings_are_the_nets.Goals as goal

pub returns : goal.returns
returns c = nets
