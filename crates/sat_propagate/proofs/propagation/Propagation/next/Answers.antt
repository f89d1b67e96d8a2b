use Rattle.std.proofs.Common.{◌≡◌, ℕ, ◌-◌, ◌≤◌, ℤ, length, sym, subst, arith}
use Rattle.lrat_check.specs.Store.{coded, held_of}
use Rattle.sat_trail.specs.Trail.{lits, true_codes}
use Rattle.sat_propagate.specs.Watching.{Calm}
use Rattle.sat_propagate.specs.Watches.{Sees as Looks, CalmWhere}
use Rattle.sat_propagate.specs.declared.unit_scan.Scan.TheVariants as scan
use Rattle.sat_propagate.specs.Propagation.{Taken, Holds, Sees}
use Rattle.sat_propagate.proofs.Going.{goes_on}
use Rattle.sat_propagate.proofs.Seen.{looked_on, conflict_at, unit_at, some_id, forced_kept}
use Rattle.sat_propagate.proofs.propagation.Propagation.next.Goals as goal

conflict_settled : (place : ℕ) → scan.Conflict place ≡ scan.Settled → ⊥
conflict_settled place e = cc

unit_settled : (place : ℕ) (l : ℤ) → scan.Unit place l ≡ scan.Settled → ⊥
unit_settled place l e = cc

pub overflow_sub-result : goal.overflow_sub-result
overflow_sub-result c =
    let i = c.self.inside in
    let w = c.next.new.self in
    let cs = c.args.clauses.now in
    let t = c.args.trail.now in
    let o : Taken = record { watches = i.watches; many = i.many; short = i.short.items; looked = i.looked } in
    let p : Taken = record { watches = w; many = i.many; short = i.short.items; looked = i.looked } in
    let h : Holds cs t p = looked_on cs t o w
    (subst (Holds cs t) (sym c.self.view_is) c.in_ok-take_up.ensures.holds)
    c.in_ok-id.ensures.keeps c.in_ok-id.ensures.same c.in_ok-id.ensures.next in
    let f = subst (Looks (held_of w.store) (lits t)) c.in-Conflict.is c.in_ok-id.ensures.sees in
    let some = some_id cs t p c.requires.stand h c.in-Conflict.id f.0 f.1 in
    omega (arith, some)

pub overflow_sub-result-in-Unit : goal.overflow_sub-result-in-Unit
overflow_sub-result-in-Unit c =
    let i = c.self.inside in
    let w = c.next.new.self in
    let cs = c.args.clauses.now in
    let t = c.args.trail.now in
    let o : Taken = record { watches = i.watches; many = i.many; short = i.short.items; looked = i.looked } in
    let p : Taken = record { watches = w; many = i.many; short = i.short.items; looked = i.looked } in
    let h : Holds cs t p = looked_on cs t o w
    (subst (Holds cs t) (sym c.self.view_is) c.in_ok-take_up.ensures.holds)
    c.in_ok-id.ensures.keeps c.in_ok-id.ensures.same c.in_ok-id.ensures.next in
    let f = subst (Looks (held_of w.store) (lits t)) c.in-Unit.is c.in_ok-id.ensures.sees in
    let some = some_id cs t p c.requires.stand h c.in-Unit.id f.0 f.1 in
    omega (arith, some)

pub look_at_short-requires-clause-holds : goal.look_at_short-requires-clause-holds
look_at_short-requires-clause-holds c =
    let i = c.self.inside in
    let w = c.next.new.self in
    let cs = c.args.clauses.now in
    let t = c.args.trail.now in
    let o : Taken = record { watches = i.watches; many = i.many; short = i.short.items; looked = i.looked } in
    let p : Taken = record { watches = w; many = i.many; short = i.short.items; looked = i.looked } in
    let h : Holds cs t p = looked_on cs t o w
    (subst (Holds cs t) (sym c.self.view_is) c.in_ok-take_up.ensures.holds)
    c.in_ok-id.ensures.keeps c.in_ok-id.ensures.same c.in_ok-id.ensures.next in
    h

pub returns-in-Conflict-clause-sees : goal.returns-in-Conflict-clause-sees
returns-in-Conflict-clause-sees c =
    let i = c.self.inside in
    let w = c.next.new.self in
    let cs = c.args.clauses.now in
    let t = c.args.trail.now in
    let o : Taken = record { watches = i.watches; many = i.many; short = i.short.items; looked = i.looked } in
    let p : Taken = record { watches = w; many = i.many; short = i.short.items; looked = i.looked } in
    let h : Holds cs t p = looked_on cs t o w
    (subst (Holds cs t) (sym c.self.view_is) c.in_ok-take_up.ensures.holds)
    c.in_ok-id.ensures.keeps c.in_ok-id.ensures.same c.in_ok-id.ensures.next in
    conflict_at cs t p c.requires.stand h c.in-Conflict.id
    (subst (Looks (held_of w.store) (lits t)) c.in-Conflict.is c.in_ok-id.ensures.sees)

pub returns-in-Conflict-clause-holds : goal.returns-in-Conflict-clause-holds
returns-in-Conflict-clause-holds c =
    let i = c.self.inside in
    let w = c.next.new.self in
    let cs = c.args.clauses.now in
    let t = c.args.trail.now in
    let o : Taken = record { watches = i.watches; many = i.many; short = i.short.items; looked = i.looked } in
    let p : Taken = record { watches = w; many = i.many; short = i.short.items; looked = i.looked } in
    let h : Holds cs t p = looked_on cs t o w
    (subst (Holds cs t) (sym c.self.view_is) c.in_ok-take_up.ensures.holds)
    c.in_ok-id.ensures.keeps c.in_ok-id.ensures.same c.in_ok-id.ensures.next in
    (h, λ e d. goes_on cs t p e h c.in_ok-id.ensures.head (λ k. absurd (conflict_settled (c.in-Conflict.id - 1) (d k))))

pub returns-in-Unit-clause-sees : goal.returns-in-Unit-clause-sees
returns-in-Unit-clause-sees c =
    let i = c.self.inside in
    let w = c.next.new.self in
    let cs = c.args.clauses.now in
    let t = c.args.trail.now in
    let o : Taken = record { watches = i.watches; many = i.many; short = i.short.items; looked = i.looked } in
    let p : Taken = record { watches = w; many = i.many; short = i.short.items; looked = i.looked } in
    let h : Holds cs t p = looked_on cs t o w
    (subst (Holds cs t) (sym c.self.view_is) c.in_ok-take_up.ensures.holds)
    c.in_ok-id.ensures.keeps c.in_ok-id.ensures.same c.in_ok-id.ensures.next in
    let place = c.in-Unit.id - 1 in
    let u = unit_at cs t p c.requires.stand h c.in-Unit.id c.in-Unit.lit
    (subst (Looks (held_of w.store) (lits t)) c.in-Unit.is c.in_ok-id.ensures.sees) in
    subst (λ z. Sees cs (lits t) (scan.Unit place z))
    (sym (forced_kept cs (lits t) u.0 place c.in-Unit.lit c.requires.lits u.1 u.2)) u

pub returns-in-Unit-clause-holds : goal.returns-in-Unit-clause-holds
returns-in-Unit-clause-holds c =
    let i = c.self.inside in
    let w = c.next.new.self in
    let cs = c.args.clauses.now in
    let t = c.args.trail.now in
    let o : Taken = record { watches = i.watches; many = i.many; short = i.short.items; looked = i.looked } in
    let p : Taken = record { watches = w; many = i.many; short = i.short.items; looked = i.looked } in
    let h : Holds cs t p = looked_on cs t o w
    (subst (Holds cs t) (sym c.self.view_is) c.in_ok-take_up.ensures.holds)
    c.in_ok-id.ensures.keeps c.in_ok-id.ensures.same c.in_ok-id.ensures.next in
    (h, λ e d. goes_on cs t p e h c.in_ok-id.ensures.head (λ k. absurd (unit_settled _ _ (d k))))

pub returns-in-Settled-clause-holds : goal.returns-in-Settled-clause-holds
returns-in-Settled-clause-holds c =
    let w = c.next.new.self in
    let cs = c.args.clauses.now in
    let t = c.args.trail.now in
    let n = c.look_at_short.new.self in
    let same = c.look_at_short.ensures.watches in
    let h : Holds cs t n = c.look_at_short.ensures.holds in
    let calm : Calm (coded w.store) (true_codes t) =
    subst (CalmWhere w.store t) c.in-Settled.is c.in_ok-id.ensures.calm in (
      h,
      λ e d. goes_on cs t n e h (subst (λ z. z.head ≤ length t) (sym same) c.in_ok-id.ensures.head)
          (λ k. subst (λ z. Calm (coded z.store) (true_codes t)) (sym same) calm),
    )
