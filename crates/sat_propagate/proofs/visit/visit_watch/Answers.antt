use Rattle.std.proofs.Common.{◌≡◌, refl, ap, sym, ◌∙◌, arith}
use Rattle.lrat_check.specs.Store.{coded, next}
use Rattle.sat_trail.specs.Trail.{true_codes}
use Rattle.sat_propagate.specs.Watching.{lists_of, with_watch, watch_at}
use Rattle.sat_propagate.proofs.Visits.{satisfies, passed, passed_by, moved, calm_moved}
use Rattle.sat_propagate.proofs.Readies.{ready_push, ready_moved, fits_move, fits_new, same_moved}
use Rattle.sat_propagate.proofs.visit.visit_watch.Goals as goal

pub returns-then-is_true-clause-visits : goal.returns-then-is_true-clause-visits
returns-then-is_true-clause-visits c =
    passed (coded c.args.store.now) (lists_of c.args.lists.now) (lists_of c.push.new.self)
    (true_codes c.args.trail.now) c.args.code c.args.watch c.args.watch c.in_ok-push.ensures refl
    (λ d h. satisfies (true_codes c.args.trail.now) d c.args.watch.blocker (c.requires.fits.stands d h)
    (sym c.is_true.ensures ∙ c.if-is_true.true))

pub returns-then-is_true-clause-ready : goal.returns-then-is_true-clause-ready
returns-then-is_true-clause-ready c =
    ready_push (coded c.args.store.now) (next c.args.store.now) (lists_of c.args.lists.now)
    (lists_of c.push.new.self) c.args.code c.args.watch c.requires.ready c.requires.fits c.in_ok-push.ensures

pub returns-in_ok-push-in-True-clause-visits : goal.returns-in_ok-push-in-True-clause-visits
returns-in_ok-push-in-True-clause-visits c =
    let v = watch_at c.args.watch.id c.in-True.other in
    let j : lists_of c.push-in-True.new.self ≡ with_watch (lists_of c.args.lists.now) c.args.code v =
    c.in_ok-push-in-True.ensures
    ∙ ap (with_watch (lists_of c.args.lists.now) c.args.code) c.in_ok-kept-in-True.ensures in
    passed_by (coded c.args.store.now) (lists_of c.args.lists.now) (lists_of c.push-in-True.new.self)
    (true_codes c.args.trail.now) c.args.code c.args.watch v c.in-Some.clause.now c.in-True.other
    j refl c.in-Some.ensures c.in-True.ensures.0 c.in-True.ensures.1

pub returns-in_ok-push-in-True-clause-ready : goal.returns-in_ok-push-in-True-clause-ready
returns-in_ok-push-in-True-clause-ready c =
    let v = watch_at c.args.watch.id c.in-True.other in
    let j : lists_of c.push-in-True.new.self ≡ with_watch (lists_of c.args.lists.now) c.args.code v =
    c.in_ok-push-in-True.ensures
    ∙ ap (with_watch (lists_of c.args.lists.now) c.args.code) c.in_ok-kept-in-True.ensures in
    ready_push (coded c.args.store.now) (next c.args.store.now) (lists_of c.args.lists.now)
    (lists_of c.push-in-True.new.self) c.args.code v c.requires.ready
    (fits_new (coded c.args.store.now) (next c.args.store.now) (lists_of c.args.lists.now) c.args.watch v
    c.in-Some.clause.now c.in-True.other c.requires.ready c.requires.fits.known c.in-Some.ensures refl
    c.in-True.ensures.0) j

pub returns-in_ok-push-in-Move-clause-visits : goal.returns-in_ok-push-in-Move-clause-visits
returns-in_ok-push-in-Move-clause-visits c =
    let v = watch_at c.args.watch.id c.in-Move.other in
    let j : lists_of c.push-in-Move.new.self ≡ with_watch (lists_of c.args.lists.now) c.in-Move.next v =
    c.in_ok-push-in-Move.ensures
    ∙ ap (with_watch (lists_of c.args.lists.now) c.in-Move.next) c.in_ok-moved-in-Move.ensures in
    moved (coded c.args.store.now) (coded c.exchange.new.self) (lists_of c.args.lists.now)
    (lists_of c.push-in-Move.new.self) (true_codes c.args.trail.now) c.args.code c.args.watch v
    c.in-Some.clause.now c.in-Move.place c.in-Move.k c.in-Move.next c.in-Move.other c.in-Some.ensures
    c.in-Move.ensures refl (c.exchange.ensures.swapped c.in-Some.clause.now c.in-Some.ensures) j

pub returns-in_ok-push-in-Move-clause-calm : goal.returns-in_ok-push-in-Move-clause-calm
returns-in_ok-push-in-Move-clause-calm c =
    let v = watch_at c.args.watch.id c.in-Move.other in
    calm_moved (coded c.args.store.now) (coded c.exchange.new.self) (lists_of c.args.lists.now)
    (lists_of c.push-in-Move.new.self) (true_codes c.args.trail.now) c.args.code c.args.watch v
    c.in-Some.clause.now c.in-Move.place c.in-Move.k c.in-Move.next c.in-Move.other c.in-Some.ensures
    c.in-Move.ensures refl (c.exchange.ensures.swapped c.in-Some.clause.now c.in-Some.ensures)

pub returns-in_ok-push-in-Move-clause-ready : goal.returns-in_ok-push-in-Move-clause-ready
returns-in_ok-push-in-Move-clause-ready c =
    let v = watch_at c.args.watch.id c.in-Move.other in
    let j : lists_of c.push-in-Move.new.self ≡ with_watch (lists_of c.args.lists.now) c.in-Move.next v =
    c.in_ok-push-in-Move.ensures
    ∙ ap (with_watch (lists_of c.args.lists.now) c.in-Move.next) c.in_ok-moved-in-Move.ensures in
    let long = c.requires.ready.long c.args.watch.id c.in-Some.clause.now c.in-Some.ensures in
    let low = c.in-Move.ensures.low in
    ready_moved (coded c.args.store.now) (coded c.exchange.new.self) (next c.args.store.now)
    (lists_of c.args.lists.now) c.args.watch.id c.in-Some.clause.now c.in-Move.place c.in-Move.k c.requires.ready
    c.in-Some.ensures (omega (arith, long, low)) c.in-Move.ensures.free.within
    (c.exchange.ensures.swapped c.in-Some.clause.now c.in-Some.ensures) c.args.watch v c.args.code c.in-Move.next
    c.in-Move.other (true_codes c.args.trail.now) (lists_of c.push-in-Move.new.self) refl c.in-Move.ensures refl
    c.requires.fits.known j

pub returns-in_ok-push-in-Move-clause-fit : goal.returns-in_ok-push-in-Move-clause-fit
returns-in_ok-push-in-Move-clause-fit c =
    let long = c.requires.ready.long c.args.watch.id c.in-Some.clause.now c.in-Some.ensures in
    let low = c.in-Move.ensures.low in
    fits_move (coded c.args.store.now) (coded c.exchange.new.self) (next c.args.store.now)
    (lists_of c.args.lists.now) c.args.watch.id c.in-Some.clause.now c.in-Move.place c.in-Move.k c.requires.ready
    c.in-Some.ensures (omega (arith, long, low)) c.in-Move.ensures.free.within
    (c.exchange.ensures.swapped c.in-Some.clause.now c.in-Some.ensures)

pub returns-in_ok-push-in-Move-clause-same : goal.returns-in_ok-push-in-Move-clause-same
returns-in_ok-push-in-Move-clause-same c =
    let long = c.requires.ready.long c.args.watch.id c.in-Some.clause.now c.in-Some.ensures in
    let low = c.in-Move.ensures.low in
    same_moved (coded c.args.store.now) (coded c.exchange.new.self) (next c.args.store.now)
    (lists_of c.args.lists.now) c.args.watch.id c.in-Some.clause.now c.in-Move.place c.in-Move.k c.requires.ready
    c.in-Some.ensures (omega (arith, long, low)) c.in-Move.ensures.free.within
    (c.exchange.ensures.swapped c.in-Some.clause.now c.in-Some.ensures)
