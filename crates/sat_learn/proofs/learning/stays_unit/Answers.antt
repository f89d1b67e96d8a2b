use Rattle.std.proofs.Common.{Option, ℤ, ap, subst, ◌∙◌, w64, to_z, of_z}
use Rattle.std.specs.Prelude.{IfSome}
use Rattle.lrat_check.specs.Sets.{is_false, IsLit}
use Rattle.sat_trail.specs.Trail.{lits, oldest, below}
use Rattle.sat_trail.proofs.Codes.{lit_kept}
use Rattle.sat_trail.proofs.Standing.{oldest_below}
use Rattle.sat_learn.specs.Analysis.{FalseLast}
use Rattle.sat_learn.proofs.Lasts.{stays_none, stays_some}
use Rattle.sat_learn.proofs.learning.stays_unit.Goals as goal

pub returns-in-None : goal.returns-in-None
returns-in-None c = λ clause one f.
    stays_none c.args.trail.now clause one (subst (FalseLast c.args.trail.now clause) c.in-None.is f)

pub returns-in-Some : goal.returns-in-Some
returns-in-Some c = λ clause one f.
    let t = c.args.trail.now in
    let P : Option ℤ → Type 0 = λ z. IfSome z IsLit in
    let i : IsLit c.in-Some.lit = subst P c.in-Some.is c.requires in
    c.is_false_at.ensures
    ∙ ap (λ n. is_false (lits (oldest n t)) (to_z w64 (of_z w64 c.in-Some.lit))) c.level_start.ensures
    ∙ ap (λ z. is_false (lits z) (to_z w64 (of_z w64 c.in-Some.lit))) (oldest_below t)
    ∙ ap (is_false (lits (below t))) (lit_kept c.in-Some.lit i)
    ∙ stays_some t clause one c.in-Some.lit (subst (FalseLast t clause) c.in-Some.is f)
