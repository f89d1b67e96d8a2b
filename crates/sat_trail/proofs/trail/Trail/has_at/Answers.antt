use Rattle.std.proofs.Common.{ap, sym, ◌∙◌}
use Rattle.std.specs.Prelude.{leb}
use Rattle.lrat_check.specs.Sets.{has}
use Rattle.sat_trail.specs.Trail.{lits, oldest, place_of}
use Rattle.sat_trail.proofs.Standing.{none_there, some_there}
use Rattle.sat_trail.proofs.trail.Trail.has_at.Goals as goal

pub returns-then-place-eq0 : goal.returns-then-place-eq0
returns-then-place-eq0 c =
    sym (none_there (place_of c.self.inside.places c.args.lit.now) c.args.end
    (sym c.get-place.ensures ∙ c.if-place-eq0.true))
    ∙ c.self.invariant.at c.args.lit.now c.args.end
    ∙ ap (λ t. has (lits (oldest c.args.end t)) c.args.lit.now) c.self.view_is

pub returns : goal.returns
returns c =
    let p = place_of c.self.inside.places c.args.lit.now in
    ap (λ z. leb z c.args.end) c.get-place.ensures
    ∙ sym (some_there p c.args.end (λ e. c.if-place-eq0.false (c.get-place.ensures ∙ e)))
    ∙ c.self.invariant.at c.args.lit.now c.args.end
    ∙ ap (λ t. has (lits (oldest c.args.end t)) c.args.lit.now) c.self.view_is
