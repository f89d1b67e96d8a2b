use Rattle.std.proofs.Common.{ap, ◌∙◌}
use Rattle.lrat_check.specs.Sets.{is_false}
use Rattle.sat_trail.specs.Trail.{lits, oldest}
use Rattle.sat_trail.proofs.Standing.{oldest_below}
use Rattle.sat_learn.proofs.shortening.is_early.Goals as goal

pub returns : goal.returns
returns c =
    let t = c.args.trail.now in
    c.is_false_at.ensures ∙ ap (λ n. is_false (lits (oldest n t)) c.args.lit.now) c.requires.start
    ∙ ap (λ z. is_false (lits z) c.args.lit.now) (oldest_below t)
