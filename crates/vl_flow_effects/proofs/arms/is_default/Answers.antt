use Rattle.std.proofs.Common.{ap}
use Rattle.vl_tree.specs.StmtView.{with_arm}
use Rattle.vl_flow_spec.specs.Paths.{has_default}
use Rattle.vl_flow_effects.proofs.arms.is_default.Goals as goal

pub returns-in-Labels : goal.returns-in-Labels
returns-in-Labels c rest = ap (λ x. has_default (with_arm x rest)) c.in-Labels.is

pub returns-in-Default : goal.returns-in-Default
returns-in-Default c rest = ap (λ x. has_default (with_arm x rest)) c.in-Default.is
