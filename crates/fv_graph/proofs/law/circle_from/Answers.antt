use Rattle.std.proofs.Common.{◌∙◌}
use Rattle.fv_graph.proofs.Circles.{circle_turned, once_turned}
use Rattle.fv_graph.proofs.law.circle_from.Goals as goal

pub returns-clause-closed : goal.returns-clause-closed
returns-clause-closed c =
    λ graph closed. circle_turned graph c.args.at c.args.circle.now c.from_vec.result c.requires
    (c.from_vec.ensures ∙ c.in_ok-turned.ensures) closed

pub returns-clause-once : goal.returns-clause-once
returns-clause-once c =
    λ once. once_turned c.args.at c.args.circle.now c.from_vec.result c.requires
    (c.from_vec.ensures ∙ c.in_ok-turned.ensures) once
