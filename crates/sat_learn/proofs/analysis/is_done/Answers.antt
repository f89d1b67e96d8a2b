use Rattle.std.proofs.Common.{◌≡◌, Bool, true, not, ap, sym, subst, ◌∙◌}
use Rattle.std.specs.Prelude.{MatchBool}
use Rattle.lrat_check.specs.Sets.{reading}
use Rattle.sat_trail.specs.Trail.{lits, below}
use Rattle.sat_trail.proofs.Starts.{decides_none}
use Rattle.sat_learn.specs.Analysis.{NewestIsImplied, is_unit}
use Rattle.sat_learn.proofs.Backs.{unit_at}
use Rattle.sat_learn.proofs.analysis.is_done.Goals as goal

pub returns-then-is_none : goal.returns-then-is_none
returns-then-is_none c =
    let t = c.args.trail.now in
    let r = c.args.set.now in
    let d = c.requires.traced in
    let P : Bool → Type 0 = λ b. MatchBool b (is_unit (reading (lits (below t)) r) ≡ true) (NewestIsImplied t) in
    subst P (sym c.if-is_none.true) (unit_at d.0 t c.in-Some.entry c.in-Some.ensures.0 c.in-Some.ensures.1 r d.1 d.2
    (decides_none c.in-Some.entry.reason (c.is_none.ensures ∙ ap not c.if-is_none.true)))
