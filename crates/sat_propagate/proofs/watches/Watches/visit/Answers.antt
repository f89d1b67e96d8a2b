use Rattle.std.proofs.Common.{◌≡◌, [], refl, sym, subst}
use Rattle.std.specs.Prelude.{MatchOption}
use Rattle.lrat_check.specs.Store.{coded}
use Rattle.sat_trail.specs.Trail.{true_codes}
use Rattle.sat_propagate.specs.Watching.{lists_of, Ready, Stops}
use Rattle.sat_propagate.specs.Watches.{State, Keeps}
use Rattle.sat_propagate.proofs.Closings.{forced_lit}
use Rattle.sat_propagate.proofs.Keeping.{visited, settled, finds_stop, stops_at}
use Rattle.sat_propagate.proofs.watches.Watches.visit.Goals as goal

pub scan_of-requires : goal.scan_of-requires
scan_of-requires c =
    forced_lit (coded c.visit_list.new.store) (true_codes c.args.trail.now) c.in-Some.stop.id c.in-Some.stop.forced
    c.in_ok-stop.ensures.ready.lits
    (stops_at (coded c.visit_list.new.store) (true_codes c.args.trail.now) c.visit_list.new.rest.items
    c.in_ok-stop.field-0 c.in-Some.stop c.in-Some.is c.in_ok-stop.ensures.found)

pub returns-in-Some-clause-keeps : goal.returns-in-Some-clause-keeps
returns-in-Some-clause-keeps c =
    let i = c.self.inside in
    let w : State = record { store = i.store; lists = i.lists; head = i.head; code = i.code; rest = i.rest.items } in
    let k : Keeps w c.args.trail.now = subst (λ z. Keeps z c.args.trail.now) (sym c.self.view_is) c.requires.keeps in
    let now : State = record {
      store = c.visit_list.new.store;
      lists = c.visit_list.new.lists;
      head = i.head;
      code = i.code;
      rest = c.visit_list.new.rest.items;
    } in
    let e = c.in_ok-stop.ensures in
    visited w now c.args.trail.now k e.going e.ready e.fit e.next refl refl

pub returns-in-Some-clause-finds : goal.returns-in-Some-clause-finds
returns-in-Some-clause-finds c =
    let i = c.self.inside in
    let now : State = record {
      store = c.visit_list.new.store;
      lists = c.visit_list.new.lists;
      head = i.head;
      code = i.code;
      rest = c.visit_list.new.rest.items;
    } in
    let e = c.in_ok-stop.ensures in
    finds_stop now c.args.trail.now c.in-Some.stop.id c.in-Some.stop.forced c.scan_of.result c.scan_of.ensures
    (subst (λ z. Ready (coded now.store) z (lists_of now.lists)) (sym e.next) e.ready)
    (stops_at (coded c.visit_list.new.store) (true_codes c.args.trail.now) c.visit_list.new.rest.items
    c.in_ok-stop.field-0 c.in-Some.stop c.in-Some.is c.in_ok-stop.ensures.found)

pub returns-clause-keeps : goal.returns-clause-keeps
returns-clause-keeps c =
    let i = c.self.inside in
    let w : State = record { store = i.store; lists = i.lists; head = i.head; code = i.code; rest = i.rest.items } in
    let k : Keeps w c.args.trail.now = subst (λ z. Keeps z c.args.trail.now) (sym c.self.view_is) c.requires.keeps in
    let now : State = record {
      store = c.visit_list.new.store;
      lists = c.visit_list.new.lists;
      head = i.head;
      code = i.code;
      rest = c.visit_list.new.rest.items;
    } in
    let e = c.in_ok-stop.ensures in
    settled now c.args.trail.now c.put_back.new.self c.put_back.new.watches.items
    (visited w now c.args.trail.now k e.going e.ready e.fit e.next refl refl)
    (subst (λ z. MatchOption z (c.visit_list.new.rest.items ≡ []) (λ stop. Stops (coded c.visit_list.new.store)
    (true_codes c.args.trail.now) stop.id stop.forced)) c.in_default.is e.found)
    c.in_ok-put_back.ensures.none c.in_ok-put_back.ensures.lists
