use Rattle.std.proofs.Common.{◌≡◌, true, false, length, ap, sym, ◌∙◌, arith}
use Rattle.std.proofs.lemmas.List.{get_or_read}
use Rattle.cnf_form.specs.Flat.{end_at}
use Rattle.lrat_check.specs.Store.{coded, above, number_at}
use Rattle.lrat_check.proofs.Rows.{rises, bounds, lies_set}
use Rattle.lrat_check.proofs.Placed.{holds, holds_none, removed}
use Rattle.lrat_check.proofs.store.Store.remove.Goals as goal

pub find-requires-clause-rising : goal.find-requires-clause-rising
find-requires-clause-rising c =
    rises c.self.inside.ids c.self.inside.starts.items c.self.inside.held.items (length c.self.inside.codes.items)
    (above c.self.inside.last) c.self.invariant

pub returns-in_default-clause-removed : goal.returns-in_default-clause-removed
returns-in_default-clause-removed c =
    let all = c.self.inside.codes.items in
    let ids = c.self.inside.ids in
    let starts = c.self.inside.starts.items in
    let held = c.self.inside.held.items in
    let top = above c.self.inside.last in
    sym (ap (λ s. coded s c.args.id) c.self.view_is)
    ∙ holds_none all ids starts held top c.self.invariant c.args.id c.in_default.ensures

pub returns-then-not-index-clause-removed : goal.returns-then-not-index-clause-removed
returns-then-not-index-clause-removed c =
    let all = c.self.inside.codes.items in
    let ids = c.self.inside.ids in
    let starts = c.self.inside.starts.items in
    let held = c.self.inside.held.items in
    let top = above c.self.inside.last in
    let place = c.in-Some.place in
    let q = get_or_read held place c.index.result.now (omega (arith, c.in-Some.ensures.0, c.self.invariant.marked))
    c.index.ensures false in
    sym (ap (λ s. coded s c.args.id) c.self.view_is)
    ∙ holds all ids starts held top c.self.invariant c.args.id place false c.in-Some.ensures
    (sym q ∙ c.if-not-index.true)

pub overflow_sub-many : goal.overflow_sub-many
overflow_sub-many c =
    let all = c.self.inside.codes.items in
    let ids = c.self.inside.ids in
    let starts = c.self.inside.starts.items in
    let held = c.self.inside.held.items in
    let top = above c.self.inside.last in
    let place = c.in-Some.place in
    let g : c.index-2.result.now ≡ number_at starts place =
    get_or_read starts place c.index-2.result.now (omega (arith, c.in-Some.ensures.0, c.self.invariant.begun))
    c.index-2.ensures 0 in
    let e : c.end_of.result ≡ end_at starts place (length all) =
    c.end_of.ensures ∙ ap (λ z. end_at z place c.len.result) c.deref.ensures.value
    ∙ ap (end_at starts place) (c.len.ensures ∙ c.self.inside.codes.ok.0) in
    let d = bounds ids starts held (length all) top c.self.invariant place c.in-Some.ensures.0 in
    omega (arith, d.0, g, e)

pub invariant_of-self : goal.invariant_of-self
invariant_of-self c =
    let all = c.self.inside.codes.items in
    let ids = c.self.inside.ids in
    let starts = c.self.inside.starts.items in
    let held = c.self.inside.held.items in
    let top = above c.self.inside.last in
    let place = c.in-Some.place in
    lies_set ids starts held (length all) top c.self.invariant place c.in-Some.ensures.0

pub returns-clause-removed : goal.returns-clause-removed
returns-clause-removed c =
    let all = c.self.inside.codes.items in
    let ids = c.self.inside.ids in
    let starts = c.self.inside.starts.items in
    let held = c.self.inside.held.items in
    let top = above c.self.inside.last in
    let place = c.in-Some.place in
    let q = get_or_read held place c.index.result.now (omega (arith, c.in-Some.ensures.0, c.self.invariant.marked))
    c.index.ensures false in
    removed all ids starts held top c.self.invariant c.args.id place true (coded c.args.self.now) c.in-Some.ensures
    (sym q ∙ c.if-not-index.false) (sym (ap coded c.self.view_is))
