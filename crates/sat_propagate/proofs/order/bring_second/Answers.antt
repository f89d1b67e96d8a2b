use Rattle.std.proofs.Common.{◌≡◌, length, w64, to_z, of_z, Some, None, refl, ap, sym, subst, ◌∙◌, arith}
use Rattle.lrat_check.specs.Sets.{has}
use Rattle.sat_propagate.specs.Watches.{Latest, lit_at}
use Rattle.sat_propagate.proofs.Orders.{same_swap, second_beyond, lead_second, one_alone, first_kept}
use Rattle.sat_propagate.proofs.order.bring_second.Goals as goal

pub returns-in-Some-clause-found : goal.returns-in-Some-clause-found
returns-in-Some-clause-found c =
    let t = c.args.trail.now in
    let d = c.args.lits.now.items in
    let s = c.as_slice.result.now in
    let x = to_z w64 (of_z w64 c.index-first.result.now) in
    let k : x ≡ lit_at d 0 =
    first_kept d c.index-first.result.now c.index-first.ensures c.requires.some c.requires.lits in
    let g : Latest t d (Some (lit_at d 0)) (length d) (Some c.in-Some.second) =
    subst (λ z. Latest t d (Some z) (length d) (Some c.in-Some.second)) k
    (subst (λ z. Latest t z (Some x) (length z) (Some c.in-Some.second)) c.as_slice.ensures.value
    (subst (λ o. Latest t s (Some x) (length s) o) c.in-Some.is c.latest.ensures)) in
    lead_second t d c.swap.new.self.items c.in-Some.second c.requires.first g c.swap.ensures.items

pub returns-in-Some-clause-same : goal.returns-in-Some-clause-same
returns-in-Some-clause-same c =
    let t = c.args.trail.now in
    let d = c.args.lits.now.items in
    let s = c.as_slice.result.now in
    let x = to_z w64 (of_z w64 c.index-first.result.now) in
    let k : x ≡ lit_at d 0 =
    first_kept d c.index-first.result.now c.index-first.ensures c.requires.some c.requires.lits in
    let g : Latest t d (Some (lit_at d 0)) (length d) (Some c.in-Some.second) =
    subst (λ z. Latest t d (Some z) (length d) (Some c.in-Some.second)) k
    (subst (λ z. Latest t z (Some x) (length z) (Some c.in-Some.second)) c.as_slice.ensures.value
    (subst (λ o. Latest t s (Some x) (length s) o) c.in-Some.is c.latest.ensures)) in
    let n = second_beyond t d c.in-Some.second g in
    λ z. same_swap d 1 c.in-Some.second (omega (arith, n.0, n.1)) n.1 z ∙ ap (λ y. has y z) (sym c.swap.ensures.items)

pub returns-in-None-clause-found : goal.returns-in-None-clause-found
returns-in-None-clause-found c =
    let t = c.args.trail.now in
    let d = c.args.lits.now.items in
    let s = c.as_slice.result.now in
    let x = to_z w64 (of_z w64 c.index-first.result.now) in
    let k : x ≡ lit_at d 0 =
    first_kept d c.index-first.result.now c.index-first.ensures c.requires.some c.requires.lits in
    let g : Latest t d (Some (lit_at d 0)) (length d) None =
    subst (λ z. Latest t d (Some z) (length d) None) k
    (subst (λ z. Latest t z (Some x) (length z) None) c.as_slice.ensures.value
    (subst (λ o. Latest t s (Some x) (length s) o) c.in-None.is c.latest.ensures)) in
    one_alone t d d (lit_at d 0) (λ z. refl) g
