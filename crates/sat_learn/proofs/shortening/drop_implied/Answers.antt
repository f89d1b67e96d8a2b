use Rattle.std.proofs.Common.{◌≡◌, List, [], ℤ, true, neg_ℤ, get_or, reverse, sym, subst, w64, to_z, of_z}
use Rattle.std.proofs.lemmas.Option.{slice_get-get_or}
use Rattle.lrat_check.specs.Sets.{has}
use Rattle.sat_learn.specs.Analysis.{implies}
use Rattle.sat_learn.proofs.Backs.{neg_kept}
use Rattle.sat_learn.proofs.Shortens.{shortens, stays_one, behind}
use Rattle.sat_learn.proofs.shortening.drop_implied.Goals as goal

pub returns-in_ok-push_id-clause-resolves : goal.returns-in_ok-push_id-clause-resolves
returns-in_ok-push_id-clause-resolves c =
    let l = c.args.lit.now in
    let r = c.args.set.now in
    let clause : List ℤ = get_or c.args.clauses.now c.in-Some.place [] in
    let n : to_z w64 (of_z w64 c.complement-forced.result) ≡ neg_ℤ l =
    neg_kept l c.complement-forced.result c.requires.lit c.complement-forced.ensures in
    let there : has r l ≡ true = sym c.if-not-has.ensures in
    behind c.args.clauses.now c.args.trail.now c.remove.new.self c.args.hints.now.items c.push_id.new.hints.items
    c.in-Some.place
    (shortens c.args.clauses.now c.args.trail.now r (reverse c.args.hints.now.items) c.requires.resolves l there
    c.in-Some.place clause (slice_get-get_or c.args.clauses.now c.in-Some.place [] c.in-Some.ensures.0)
    (subst (λ z. implies r z l clause ≡ true) n c.in-Some.ensures.1) c.remove.new.self c.remove.ensures)
    c.in_ok-push_id.ensures

pub returns-in_ok-push_id-clause-unit : goal.returns-in_ok-push_id-clause-unit
returns-in_ok-push_id-clause-unit c =
    let l = c.args.lit.now in
    let r = c.args.set.now in
    let clause : List ℤ = get_or c.args.clauses.now c.in-Some.place [] in
    let n : to_z w64 (of_z w64 c.complement-forced.result) ≡ neg_ℤ l =
    neg_kept l c.complement-forced.result c.requires.lit c.complement-forced.ensures in
    let there : has r l ≡ true = sym c.if-not-has.ensures in
    stays_one c.args.clauses.now c.args.trail.now r (reverse c.args.hints.now.items) c.requires.resolves l there
    c.in-Some.place clause (slice_get-get_or c.args.clauses.now c.in-Some.place [] c.in-Some.ensures.0)
    (subst (λ z. implies r z l clause ≡ true) n c.in-Some.ensures.1) c.remove.new.self c.remove.ensures
    c.requires.unit (sym c.if-not-is_early.ensures)
