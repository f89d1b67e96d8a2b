use Rattle.std.proofs.Common.{◌+◌, ◌-◌, length, refl, ap, sym, subst, arith}
use Rattle.lrat_check.specs.Store.{Rising, NoId, IsId}
use Rattle.lrat_check.proofs.Counted.{many, others_rise, is_counted, is_other, no_id}
use Rattle.lrat_check.proofs.ids.Ids.find.Goals as goal
use Rattle.lrat_check.proofs.ids.Ids.find.Goals.{else-id-gt0-via-then-id-gt0+else-id-self, else-id-gt0-via-else-id-gt0}

pub returns-then-id-self : goal.returns-then-id-self
returns-then-id-self c =
    subst (λ z. IsId z c.args.id (c.args.id - 1)) c.self.view_is
    (is_counted c.self.inside.counted c.self.inside.others.items c.args.id (c.args.id - 1)
    (omega (arith, c.if-id-gt0.true)) c.if-id-self.true)

pub search-requires : goal.search-requires
search-requires c =
    subst Rising (sym c.deref.ensures.value) (others_rise c.self.inside.counted c.self.inside.others.items
    (subst Rising (sym c.self.view_is) c.requires.rising))

pub returns-in_default : goal.returns-in_default
returns-in_default c =
    subst (λ z. NoId z c.args.id) c.self.view_is
    (no_id c.self.inside.counted c.self.inside.others.items c.args.id
    (λ a b. elim c.else-id-gt0.branch [
      | else-id-gt0-via-then-id-gt0+else-id-self w ↦ omega (arith, b, w.if-id-self.false)
      | else-id-gt0-via-else-id-gt0 w ↦ omega (arith, a, w.if-id-gt0.false)
    ])
    (subst (λ z. NoId z c.args.id) c.deref.ensures.value c.in_default.ensures))

pub overflow_add-result : goal.overflow_add-result
overflow_add-result c =
    let r : IsId c.self.inside.others.items c.args.id c.in-Some.behind =
    subst (λ z. IsId z c.args.id c.in-Some.behind) c.deref.ensures.value c.in-Some.ensures in
    omega (arith, r.0, many c.self.inside.counted c.self.inside.others.items, ap length c.self.view_is, c.requires.long)

pub returns : goal.returns
returns c =
    let behind = c.in-Some.behind in
    subst (λ z. IsId z c.args.id (c.self.inside.counted + behind)) c.self.view_is
    (is_other c.self.inside.counted c.self.inside.others.items c.args.id behind (c.self.inside.counted + behind) refl
    (subst (λ z. IsId z c.args.id behind) c.deref.ensures.value c.in-Some.ensures))
