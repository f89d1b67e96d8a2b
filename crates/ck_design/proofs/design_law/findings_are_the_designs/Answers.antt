use Rattle.ck_design.proofs.Found.{designs}
use Rattle.ck_design.proofs.design_law.findings_are_the_designs.Goals as goal

pub returns : goal.returns
returns c = designs
