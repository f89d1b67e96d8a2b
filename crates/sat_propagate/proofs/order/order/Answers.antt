use Rattle.std.proofs.Common.{length, Some, None, ap, sym, subst, ◌∙◌, arith}
use Rattle.lrat_check.specs.Sets.{has}
use Rattle.sat_propagate.specs.Watches.{Latest, Leads, SameLits}
use Rattle.sat_propagate.proofs.Orders.{same_swap, lead_first, alone_on}
use Rattle.sat_propagate.proofs.order.order.Goals as goal

pub bring_second-requires-clause-first : goal.bring_second-requires-clause-first
bring_second-requires-clause-first c =
    let t = c.args.trail.now in
    let d = c.args.lits.now.items in
    let s = c.as_slice.result.now in
    let g : Latest t d None (length d) (Some c.in-Some.first) =
    subst (λ z. Latest t z None (length z) (Some c.in-Some.first)) c.as_slice.ensures.value
    (subst (λ o. Latest t s None (length s) o) c.in-Some.is c.latest.ensures) in
    lead_first t d c.swap.new.self.items c.in-Some.first g c.swap.ensures.items

pub returns-in-Some-clause-same : goal.returns-in-Some-clause-same
returns-in-Some-clause-same c =
    let t = c.args.trail.now in
    let d = c.args.lits.now.items in
    let s = c.as_slice.result.now in
    let g : Latest t d None (length d) (Some c.in-Some.first) =
    subst (λ z. Latest t z None (length z) (Some c.in-Some.first)) c.as_slice.ensures.value
    (subst (λ o. Latest t s None (length s) o) c.in-Some.is c.latest.ensures) in
    let n = g.0 in
    λ z. same_swap d 0 c.in-Some.first (omega (arith, n)) n z ∙ ap (λ y. has y z) (sym c.swap.ensures.items)
    ∙ c.bring_second.ensures.same z

pub returns-in-Some-clause-found : goal.returns-in-Some-clause-found
returns-in-Some-clause-found c =
    let t = c.args.trail.now in
    let d = c.args.lits.now.items in
    let s = c.as_slice.result.now in
    let g : Latest t d None (length d) (Some c.in-Some.first) =
    subst (λ z. Latest t z None (length z) (Some c.in-Some.first)) c.as_slice.ensures.value
    (subst (λ o. Latest t s None (length s) o) c.in-Some.is c.latest.ensures) in
    let n = g.0 in
    let same : SameLits d c.swap.new.self.items = λ z.
    same_swap d 0 c.in-Some.first (omega (arith, n)) n z ∙ ap (λ y. has y z) (sym c.swap.ensures.items) in
    alone_on c.bring_second.result (Leads t c.bring_second.new.lits.items) d c.swap.new.self.items same
    c.bring_second.ensures.found
