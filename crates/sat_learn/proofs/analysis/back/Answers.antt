use Rattle.std.proofs.Common.{◌≡◌, true, not, ◌&&◌, ◌||◌, neg_ℤ, w64, to_z, of_z, ap, sym, ◌∙◌, arith}
use Rattle.std.specs.Ordering.{int_eq}
use Rattle.lrat_check.specs.Sets.{has}
use Rattle.sat_learn.proofs.Backs.{lit_kept, neg_kept, reason_lits, reason_below, backed}
use Rattle.sat_learn.proofs.analysis.back.Goals as goal

pub join-requires : goal.join-requires
join-requires c =
    reason_lits c.args.clauses.now c.args.entry c.args.trail.now c.args.set.now
    c.args.tracing.now.hints.items c.in-Some.reason c.at.result.now c.requires.lits c.requires.derives
    c.in-Some.is c.at.ensures

pub push_id-requires : goal.push_id-requires
push_id-requires c =
    let b = reason_below c.args.clauses.now c.args.entry c.args.trail.now c.args.set.now
    c.args.tracing.now.hints.items c.in-Some.reason c.at.result.now c.requires.derives
    c.in-Some.is c.at.ensures in
    omega (arith, b, c.requires.few)

pub returns-in_ok-push_id-clause-derives : goal.returns-in_ok-push_id-clause-derives
returns-in_ok-push_id-clause-derives c =
    let l = c.args.entry.lit in
    let k = c.requires.derives.stand.0.lit in
    let r = c.args.set.now in
    let d = c.at.result.now in
    let n : to_z w64 (of_z w64 c.complement-lit.result) ≡ neg_ℤ l =
    neg_kept l c.complement-lit.result k c.complement-lit.ensures in
    let m : has r (neg_ℤ l) ≡ true = sym (c.if-not-has.ensures ∙ ap (has r) n) in
    backed c.args.clauses.now c.args.entry c.args.trail.now r c.args.tracing.now.hints.items c.in-Some.reason d
    c.requires.lits c.requires.derives m c.in-Some.is c.at.ensures c.join.new.set
    (λ x. c.in_ok-more.ensures x
    ∙ ap (λ b. b || (not (int_eq (to_z w64 (of_z w64 l)) x) && has c.at.result.now x)) (c.remove.ensures x)
    ∙ ap (λ z. (not (int_eq z x) && has r x)
    || (not (int_eq (to_z w64 (of_z w64 l)) x) && has c.at.result.now x)) n
    ∙ ap (λ z. (not (int_eq (neg_ℤ l) x) && has r x)
    || (not (int_eq z x) && has c.at.result.now x)) (lit_kept l k))
    c.push_id.new.hints.items c.in_ok-push_id.ensures
