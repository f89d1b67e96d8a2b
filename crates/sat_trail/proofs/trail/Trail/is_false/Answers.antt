use Rattle.std.proofs.Common.{◌∙◌, not, eqb, neg_ℤ, get_or, ap, reverse}
use Rattle.lrat_check.specs.Codes.{lit_of}
use Rattle.lrat_check.specs.Sets.{has}
use Rattle.sat_trail.specs.Trail.{lits}
use Rattle.lrat_check.proofs.Codes.{flip_code}
use Rattle.sat_trail.proofs.Codes.{code_false}
use Rattle.sat_trail.proofs.Standing.{placed_true}
use Rattle.sat_trail.proofs.trail.Trail.is_false.Goals as goal

pub returns : goal.returns
returns c =
    ap (λ n. not (eqb n 0)) (c.at.ensures
    ∙ ap (λ k. get_or c.self.inside.places k 0) (c.flip.ensures ∙ flip_code c.args.code c.requires))
    ∙ placed_true (reverse c.self.inside.entries.items) c.self.inside.places c.self.invariant
    (neg_ℤ (lit_of c.args.code))
    ∙ ap (λ t. has (lits t) (neg_ℤ (lit_of c.args.code))) c.self.view_is
    ∙ code_false (lits c.args.self.now) c.args.code c.requires
