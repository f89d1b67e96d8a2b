use Rattle.std.proofs.Common.{ap, ◌∙◌}
use Rattle.lrat_check.specs.Sets.{reading}
use Rattle.sat_trail.specs.Trail.{lits, oldest}
use Rattle.sat_trail.proofs.Standing.{oldest_below}
use Rattle.sat_trail.proofs.trail.Trail.read_from.Goals as goal

pub returns : goal.returns
returns c =
    c.read_at.ensures ∙ ap (λ t. reading (lits t) c.args.clause.now)
    (ap (λ n. oldest n c.args.self.now) c.requires.start ∙ oldest_below c.args.self.now)
