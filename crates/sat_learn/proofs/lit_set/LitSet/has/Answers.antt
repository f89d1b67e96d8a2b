use Rattle.std.proofs.Common.{not, eqb, ap, sym, ◌∙◌}
use Rattle.lrat_check.specs.Sets.{has}
use Rattle.sat_trail.specs.Trail.{place_of}
use Rattle.sat_learn.proofs.Placings.{placed_is, has_placed}
use Rattle.sat_learn.proofs.lit_set.LitSet.has.Goals as goal

pub returns : goal.returns
returns c =
    ap (λ n. not (eqb n 0)) c.get.ensures ∙ placed_is (place_of c.self.inside.places c.args.lit.now)
    ∙ sym (has_placed c.self.inside.lits.items c.self.inside.places c.self.invariant c.args.lit.now)
    ∙ ap (λ z. has z c.args.lit.now) c.self.view_is
