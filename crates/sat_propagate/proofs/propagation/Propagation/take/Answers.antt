use Rattle.std.proofs.Common.{◌≡◌, ◌+◌, ◌<◌, List, ℕ, Some, length, ap, sym, subst, ◌∙◌}
use Rattle.std.specs.Prelude.{slice_get}
use Rattle.std.proofs.lemmas.Option.{slice_get-get_or}
use Rattle.lrat_check.specs.Store.{coded}
use Rattle.sat_propagate.specs.Watches.{Adds}
use Rattle.sat_propagate.specs.Propagation.{Taken, Holds}
use Rattle.sat_propagate.proofs.Takes.{taken_on, short_on}
use Rattle.sat_propagate.proofs.ByPlace.{open_below}
use Rattle.sat_propagate.proofs.propagation.Propagation.take.Goals as goal

pub at-clause-requires : goal.at-clause-requires
at-clause-requires c = subst (λ z. z.many < length c.args.clauses.now) (sym c.self.view_is) c.requires.within

pub add-requires-clause-open : goal.add-requires-clause-open
add-requires-clause-open c =
    let i = c.self.inside in
    let cs = c.args.clauses.now in
    let d = c.at-clause.result.now in
    let few : i.many < length cs = subst (λ z. z.many < length cs) (sym c.self.view_is) c.requires.within in
    let g : slice_get cs i.many ≡ Some d = slice_get-get_or cs i.many d few ∙ ap Some (sym c.at-clause.ensures) in
    open_below cs c.args.trail.now i.many d c.requires.stand g

pub returns-in_ok-push-clause-holds : goal.returns-in_ok-push-clause-holds
returns-in_ok-push-clause-holds c =
    let i = c.self.inside in
    let cs = c.args.clauses.now in
    let t = c.args.trail.now in
    let d = c.at-clause.result.now in
    let p : Taken = record { watches = i.watches; many = i.many; short = i.short.items; looked = i.looked } in
    let h : Holds cs t p = subst (λ z. Holds cs t z) (sym c.self.view_is) c.requires.holds in
    let few : i.many < length cs = subst (λ z. z.many < length cs) (sym c.self.view_is) c.requires.within in
    let g : slice_get cs i.many ≡ Some d = slice_get-get_or cs i.many d few ∙ ap Some (sym c.at-clause.ensures) in
    let a = subst (λ b. Adds (coded i.watches.store) (coded c.add.new.self.store) (i.many + 1)
    c.at-clause.result.now b) c.if-not-is_watched.true c.in_ok-is_watched.ensures.adds in
    let P : List ℕ → Type 0 = λ z. Holds cs t
    (record { watches = c.add.new.self; many = i.many + 1; short = z; looked = i.looked }) in
    subst P (sym c.in_ok-push.ensures.items)
    (short_on cs t p h d g few c.add.new.self c.in_ok-is_watched.ensures.keeps c.in_ok-is_watched.ensures.next
    a.1 a.0)

pub returns-else-not-is_watched-clause-holds : goal.returns-else-not-is_watched-clause-holds
returns-else-not-is_watched-clause-holds c =
    let i = c.self.inside in
    let cs = c.args.clauses.now in
    let t = c.args.trail.now in
    let d = c.at-clause.result.now in
    let p : Taken = record { watches = i.watches; many = i.many; short = i.short.items; looked = i.looked } in
    let h : Holds cs t p = subst (λ z. Holds cs t z) (sym c.self.view_is) c.requires.holds in
    let few : i.many < length cs = subst (λ z. z.many < length cs) (sym c.self.view_is) c.requires.within in
    let g : slice_get cs i.many ≡ Some d = slice_get-get_or cs i.many d few ∙ ap Some (sym c.at-clause.ensures) in
    let a = subst (λ b. Adds (coded i.watches.store) (coded c.add.new.self.store) (i.many + 1)
    c.at-clause.result.now b) c.if-not-is_watched.false c.in_ok-is_watched.ensures.adds in
    taken_on cs t p h d g few c.add.new.self c.in_ok-is_watched.ensures.keeps c.in_ok-is_watched.ensures.next
    a.0 a.2 a.1
