use Rattle.std.proofs.Common.{◌≡◌, ◌≤◌, ℕ, w64, to_z, of_z, ap, sym, subst, ◌∙◌, arith}
use Rattle.lrat_check.specs.Codes.{code_of, codes_of}
use Rattle.lrat_check.specs.Sets.{has, is_false}
use Rattle.lrat_check.specs.Store.{coded, next, with_code}
use Rattle.sat_trail.specs.Trail.{lits, oldest}
use Rattle.sat_propagate.specs.declared.watch.Watch.{Watch}
use Rattle.sat_propagate.specs.Watching.{lists_of, with_watch, watch_at}
use Rattle.sat_propagate.specs.Watches.{State, Keeps, SameLits, OneAlone, lit_at}
use Rattle.sat_propagate.proofs.Gaps.{none_above, left_out_on}
use Rattle.sat_propagate.proofs.Orders.{kept_at}
use Rattle.sat_propagate.proofs.Keeping.{added}
use Rattle.sat_propagate.proofs.watches.Watches.add.Goals as goal

pub leave_out-requires-clause-none : goal.leave_out-requires-clause-none
leave_out-requires-clause-none c =
    let i = c.self.inside in
    let t = c.args.trail.now in
    let w : State = record { store = i.store; lists = i.lists; head = i.head; code = i.code; rest = i.rest.items } in
    none_above w t c.args.id (subst (λ z. Keeps z t) (sym c.self.view_is) c.requires.keeps)
    (subst (λ z. next z.store ≤ c.args.id) (sym c.self.view_is) c.requires.above)

pub returns-then-not-order-clause-keeps : goal.returns-then-not-order-clause-keeps
returns-then-not-order-clause-keeps c =
    let i = c.self.inside in
    let t = c.args.trail.now in
    let w : State = record { store = i.store; lists = i.lists; head = i.head; code = i.code; rest = i.rest.items } in
    let above = subst (λ z. next z.store ≤ c.args.id) (sym c.self.view_is) c.requires.above in
    left_out_on w t c.leave_out.new.store (subst (λ z. Keeps z t) (sym c.self.view_is) c.requires.keeps)
    c.in_ok-leave_out.ensures.same (omega (arith, above, c.in_ok-leave_out.ensures.next))

pub returns-then-not-order-clause-adds : goal.returns-then-not-order-clause-adds
returns-then-not-order-clause-adds c = (
  c.in_ok-leave_out.ensures.same ∙ ap (λ z. coded z.store) c.self.view_is,
  subst OneAlone c.in_ok-ordered.ensures.items c.if-not-order.ensures.found,
)

pub returns-clause-adds : goal.returns-clause-adds
returns-clause-adds c =
    let i = c.self.inside in
    let t = c.args.trail.now in
    let d = c.order.new.lits.items in
    let same : SameLits c.args.lits.now d = λ z.
    ap (λ y. has y z) (sym c.in_ok-ordered.ensures.items) ∙ c.if-not-order.ensures.same z in
    let e : coded c.add.new.self ≡ with_code (coded i.store) c.args.id (codes_of d) =
    c.in_ok-add.ensures.ok ∙ ap (λ z. with_code (coded i.store) c.args.id (codes_of z)) c.as_slice.ensures.value in
    (d, e ∙ ap (λ z. with_code (coded z.store) c.args.id (codes_of d)) c.self.view_is, same)

pub returns-clause-keeps : goal.returns-clause-keeps
returns-clause-keeps c =
    let i = c.self.inside in
    let t = c.args.trail.now in
    let d = c.order.new.lits.items in
    let same : SameLits c.args.lits.now d = λ z.
    ap (λ y. has y z) (sym c.in_ok-ordered.ensures.items) ∙ c.if-not-order.ensures.same z in
    let e : coded c.add.new.self ≡ with_code (coded i.store) c.args.id (codes_of d) =
    c.in_ok-add.ensures.ok ∙ ap (λ z. with_code (coded i.store) c.args.id (codes_of z)) c.as_slice.ensures.value in
    let w : State = record { store = i.store; lists = i.lists; head = i.head; code = i.code; rest = i.rest.items } in
    let k : Keeps w t = subst (λ z. Keeps z t) (sym c.self.view_is) c.requires.keeps in
    let leads = c.if-not-order.ensures.found in
    let a = c.if-not-order.ensures.lits in
    let long = leads.long in
    let v : ℕ → Watch = watch_at c.args.id in
    let p : c.code_of-first.result ≡ code_of (lit_at d 0) =
    c.code_of-first.ensures ∙ ap code_of (kept_at d 0 c.index.result.now c.index.ensures (omega (arith, long)) a) in
    let q : c.code_of-second.result ≡ code_of (lit_at d 1) =
    c.code_of-second.ensures ∙ ap code_of (kept_at d 1 c.index-2.result.now c.index-2.ensures long a) in
    let j : lists_of c.push-2.new.self ≡ with_watch (with_watch (lists_of i.lists) (code_of (lit_at d 0))
    (v (code_of (lit_at d 1)))) (code_of (lit_at d 1)) (v (code_of (lit_at d 0))) =
    c.in_ok-push-2.ensures
    ∙ ap (λ z. with_watch z c.code_of-second.result c.in_ok-other.other) c.in_ok-push.ensures
    ∙ ap (λ z. with_watch (with_watch (lists_of i.lists) c.code_of-first.result c.in_ok-one.one)
    c.code_of-second.result z) c.in_ok-other.ensures
    ∙ ap (λ z. with_watch (with_watch (lists_of i.lists) c.code_of-first.result z) c.code_of-second.result
    (v c.code_of-first.result)) c.in_ok-one.ensures
    ∙ ap (λ z. with_watch (with_watch (lists_of i.lists) z (v c.code_of-second.result)) c.code_of-second.result (v z)) p
    ∙ ap (λ z. with_watch (with_watch (lists_of i.lists) (code_of (lit_at d 0)) (v z)) z
    (v (code_of (lit_at d 0)))) q in
    let r : to_z w64 (of_z w64 c.index-3.result.now) ≡ lit_at d 1 =
    kept_at d 1 c.index-3.result.now c.index-3.ensures long a in
    let few : c.min-self-inside.result ≤ c.open_until.result = omega (arith, c.min-self-inside.ensures) in
    added w t c.add.new.self c.push-2.new.self c.min-self-inside.result c.args.id c.args.lits.now d k
    (subst (λ z. next z.store ≤ c.args.id) (sym c.self.view_is) c.requires.above) c.requires.open same a leads e
    c.in_ok-add.ensures.next j (omega (arith, c.min-self-inside.ensures))
    (ap (is_false (lits (oldest c.min-self-inside.result t))) (sym r)
    ∙ c.open_until.ensures c.min-self-inside.result few)
