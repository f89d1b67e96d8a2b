use Rattle.ck_design.proofs.Found.{found_violates}
use Rattle.ck_design.proofs.design_law.findings_of_checks_violate.Goals as goal

pub returns : goal.returns
returns c = found_violates
