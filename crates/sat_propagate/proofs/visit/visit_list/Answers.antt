use Rattle.std.proofs.Common.{◌≡◌, [], ◌∷◌, ◌++◌, refl, ap, sym, subst, ◌∙◌}
use Rattle.std.proofs.lemmas.List.{append-nil}
use Rattle.lrat_check.specs.Store.{coded, next}
use Rattle.sat_trail.specs.Trail.{true_codes}
use Rattle.sat_propagate.specs.Watching.{lists_of, watch_at, Ready, Fits, AreFit, KeepsFit}
use Rattle.sat_propagate.proofs.Goings.{fit_parts, fit_on, going_on, going_new, going_same, passes_of, unit_of}
use Rattle.sat_propagate.proofs.Goings.{conflict_of}
use Rattle.sat_propagate.proofs.Readies.{same_on, all_last, fits_new}
use Rattle.sat_propagate.proofs.visit.visit_list.Goals as goal

pub loop-watch-preserved : goal.loop-watch-preserved
loop-watch-preserved c =
    let i = c.loop-watch.invariant in
    let w = c.in-Some.watch in
    let held = coded c.loop-watch.store in
    let now = coded c.visit_watch.new.store in
    let e : c.loop-watch.rest.items ≡ c.pop.new.self.items ++ w ∷ [] = c.in-Some.ensures.items in
    let f = fit_parts held (next c.args.store.now) c.loop-watch.rest.items c.pop.new.self.items w e i.1 in
    let p = passes_of held now (lists_of c.loop-watch.lists) (lists_of c.visit_watch.new.lists)
    (true_codes c.args.trail.now) c.args.code w c.in_ok-visit_watch.field-0 c.in-Passed.is
    c.in_ok-visit_watch.ensures.visits in (
      subst (λ z. Ready now z (lists_of c.visit_watch.new.lists)) i.3 c.in_ok-visit_watch.ensures.ready,
      fit_on held now (next c.args.store.now) c.pop.new.self.items
          (subst (λ z. KeepsFit held now z) i.3 c.in_ok-visit_watch.ensures.fit) f.0,
      same_on (coded c.args.store.now) held now i.2 c.in_ok-visit_watch.ensures.same,
      c.in_ok-visit_watch.ensures.next ∙ i.3,
      going_on (coded c.args.store.now) held now (lists_of c.args.lists.now) (lists_of c.loop-watch.lists)
          (lists_of c.visit_watch.new.lists) (true_codes c.args.trail.now) c.args.code c.args.rest.now.items
          c.loop-watch.rest.items c.pop.new.self.items w i.4 e p c.in_ok-visit_watch.ensures.calm,
    )

pub returns-in-Unit-clause-fit : goal.returns-in-Unit-clause-fit
returns-in-Unit-clause-fit c =
    let i = c.loop-watch.invariant in
    let now = coded c.visit_watch.new.store in
    let held = coded c.loop-watch.store in
    let bound = next c.args.store.now in
    let w = c.in-Some.watch in
    let v = watch_at w.id c.in-Unit.forced in
    let left = c.pop.new.self.items in
    let r = unit_of held now (lists_of c.loop-watch.lists) (lists_of c.visit_watch.new.lists)
    (true_codes c.args.trail.now) c.args.code w c.in_ok-visit_watch.field-0 c.in-Unit.forced c.in-Unit.is
    c.in_ok-visit_watch.ensures.visits in
    let f = fit_parts held bound c.loop-watch.rest.items left w c.in-Some.ensures.items i.1 in
    let fit = fits_new held bound (lists_of c.loop-watch.lists) w v r.2.0 c.in-Unit.forced i.0 f.1.known r.2.1 refl
    r.2.2.member in
    let back : left ++ v ∷ [] ≡ c.push.new.self.items =
    sym (c.in_ok-push-in-Unit.ensures.items ∙ ap (λ z. left ++ z ∷ []) c.in_ok-forcing-in-Unit.ensures) in
    subst (λ z. AreFit z bound c.push.new.self.items) r.0
    (subst (AreFit held bound) back (all_last (Fits held bound) left v f.0 fit))

pub returns-in-Unit-clause-going : goal.returns-in-Unit-clause-going
returns-in-Unit-clause-going c =
    let i = c.loop-watch.invariant in
    let now = coded c.visit_watch.new.store in
    let held = coded c.loop-watch.store in
    let w = c.in-Some.watch in
    let v = watch_at w.id c.in-Unit.forced in
    let left = c.pop.new.self.items in
    let r = unit_of held now (lists_of c.loop-watch.lists) (lists_of c.visit_watch.new.lists)
    (true_codes c.args.trail.now) c.args.code w c.in_ok-visit_watch.field-0 c.in-Unit.forced c.in-Unit.is
    c.in_ok-visit_watch.ensures.visits in
    let back : left ++ v ∷ [] ≡ c.push.new.self.items =
    sym (c.in_ok-push-in-Unit.ensures.items ∙ ap (λ z. left ++ z ∷ []) c.in_ok-forcing-in-Unit.ensures) in
    going_same (coded c.args.store.now) held now (lists_of c.args.lists.now) (lists_of c.loop-watch.lists)
    (lists_of c.visit_watch.new.lists) (true_codes c.args.trail.now) c.args.code c.args.rest.now.items
    (left ++ v ∷ []) c.push.new.self.items
    (going_new (coded c.args.store.now) held (lists_of c.args.lists.now) (lists_of c.loop-watch.lists)
    (true_codes c.args.trail.now) c.args.code c.args.rest.now.items c.loop-watch.rest.items left w v i.4
    c.in-Some.ensures.items refl) r.0 r.1 back

pub returns-in-Conflict-clause-fit : goal.returns-in-Conflict-clause-fit
returns-in-Conflict-clause-fit c =
    let i = c.loop-watch.invariant in
    let now = coded c.visit_watch.new.store in
    let held = coded c.loop-watch.store in
    let r = conflict_of held now (lists_of c.loop-watch.lists) (lists_of c.visit_watch.new.lists)
    (true_codes c.args.trail.now) c.args.code c.in-Some.watch c.in_ok-visit_watch.field-0 c.in-Conflict.is
    c.in_ok-visit_watch.ensures.visits in
    let back : c.loop-watch.rest.items ≡ c.push-in-Conflict.new.self.items =
    c.in-Some.ensures.items ∙ sym c.in_ok-push-in-Conflict.ensures.items in
    subst (λ z. AreFit z (next c.args.store.now) c.push-in-Conflict.new.self.items) r.0
    (subst (λ z. AreFit held (next c.args.store.now) z) back i.1)

pub returns-in-Conflict-clause-going : goal.returns-in-Conflict-clause-going
returns-in-Conflict-clause-going c =
    let i = c.loop-watch.invariant in
    let now = coded c.visit_watch.new.store in
    let held = coded c.loop-watch.store in
    let r = conflict_of held now (lists_of c.loop-watch.lists) (lists_of c.visit_watch.new.lists)
    (true_codes c.args.trail.now) c.args.code c.in-Some.watch c.in_ok-visit_watch.field-0 c.in-Conflict.is
    c.in_ok-visit_watch.ensures.visits in
    let back : c.loop-watch.rest.items ≡ c.push-in-Conflict.new.self.items =
    c.in-Some.ensures.items ∙ sym c.in_ok-push-in-Conflict.ensures.items in
    going_same (coded c.args.store.now) held now (lists_of c.args.lists.now) (lists_of c.loop-watch.lists)
    (lists_of c.visit_watch.new.lists) (true_codes c.args.trail.now) c.args.code c.args.rest.now.items
    c.loop-watch.rest.items c.push-in-Conflict.new.self.items i.4 r.0 r.1 back

pub returns-clause-going : goal.returns-clause-going
returns-clause-going c =
    let h : c.loop-watch.rest.items ≡ c.pop.new.self.items =
    c.in_default.ensures.items ∙ append-nil c.pop.new.self.items in
    going_same (coded c.args.store.now) (coded c.loop-watch.store) (coded c.loop-watch.store)
    (lists_of c.args.lists.now) (lists_of c.loop-watch.lists) (lists_of c.loop-watch.lists)
    (true_codes c.args.trail.now) c.args.code c.args.rest.now.items c.loop-watch.rest.items c.pop.new.self.items
    c.loop-watch.invariant.4 refl refl h
