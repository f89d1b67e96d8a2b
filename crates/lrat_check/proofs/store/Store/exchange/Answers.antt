use Rattle.std.proofs.Common.{◌≡◌, ◌+◌, length, ap, sym, ◌∙◌, arith}
use Rattle.std.specs.List.{swap}
use Rattle.std.proofs.lemmas.List.{get_or_read}
use Rattle.lrat_check.specs.Store.{coded, with_code, above, number_at}
use Rattle.lrat_check.proofs.Spans.{none_some, some_is}
use Rattle.lrat_check.proofs.Rows.{rises}
use Rattle.lrat_check.proofs.Placed.{holds_none, in_codes, exchanged}
use Rattle.lrat_check.proofs.store.Store.exchange.Goals as goal

pub find-requires-clause-rising : goal.find-requires-clause-rising
find-requires-clause-rising c =
    rises c.self.inside.ids c.self.inside.starts.items c.self.inside.held.items (length c.self.inside.codes.items)
    (above c.self.inside.last) c.self.invariant

pub overflow_add-start : goal.overflow_add-start
overflow_add-start c =
    let all = c.self.inside.codes.items in
    let ids = c.self.inside.ids in
    let starts = c.self.inside.starts.items in
    let held = c.self.inside.held.items in
    let top = above c.self.inside.last in
    let place = c.in-Some.place in
    let g : c.index.result.now ≡ number_at starts place =
    get_or_read starts place c.index.result.now (omega (arith, c.in-Some.ensures.0, c.self.invariant.begun))
    c.index.ensures 0 in
    let d = in_codes all ids starts held top c.self.invariant c.args.id place c.args.a c.args.b c.requires.0
    c.in-Some.ensures (ap (λ s. coded s c.args.id) c.self.view_is ∙ c.requires.1) c.requires.2 c.requires.3 in
    omega (arith, d.0, g, c.self.inside.codes.ok.0)

pub overflow_add-start-in-Some : goal.overflow_add-start-in-Some
overflow_add-start-in-Some c =
    let all = c.self.inside.codes.items in
    let ids = c.self.inside.ids in
    let starts = c.self.inside.starts.items in
    let held = c.self.inside.held.items in
    let top = above c.self.inside.last in
    let place = c.in-Some.place in
    let g : c.index.result.now ≡ number_at starts place =
    get_or_read starts place c.index.result.now (omega (arith, c.in-Some.ensures.0, c.self.invariant.begun))
    c.index.ensures 0 in
    let d = in_codes all ids starts held top c.self.invariant c.args.id place c.args.a c.args.b c.requires.0
    c.in-Some.ensures (ap (λ s. coded s c.args.id) c.self.view_is ∙ c.requires.1) c.requires.2 c.requires.3 in
    omega (arith, d.1, g, c.self.inside.codes.ok.0)

pub swap-requires-clause-i_in_bounds : goal.swap-requires-clause-i_in_bounds
swap-requires-clause-i_in_bounds c =
    let all = c.self.inside.codes.items in
    let ids = c.self.inside.ids in
    let starts = c.self.inside.starts.items in
    let held = c.self.inside.held.items in
    let top = above c.self.inside.last in
    let place = c.in-Some.place in
    let g : c.index.result.now ≡ number_at starts place =
    get_or_read starts place c.index.result.now (omega (arith, c.in-Some.ensures.0, c.self.invariant.begun))
    c.index.ensures 0 in
    let d = in_codes all ids starts held top c.self.invariant c.args.id place c.args.a c.args.b c.requires.0
    c.in-Some.ensures (ap (λ s. coded s c.args.id) c.self.view_is ∙ c.requires.1) c.requires.2 c.requires.3 in
    omega (arith, d.0, g, c.self.inside.codes.ok.0)

pub swap-requires-clause-j_in_bounds : goal.swap-requires-clause-j_in_bounds
swap-requires-clause-j_in_bounds c =
    let all = c.self.inside.codes.items in
    let ids = c.self.inside.ids in
    let starts = c.self.inside.starts.items in
    let held = c.self.inside.held.items in
    let top = above c.self.inside.last in
    let place = c.in-Some.place in
    let g : c.index.result.now ≡ number_at starts place =
    get_or_read starts place c.index.result.now (omega (arith, c.in-Some.ensures.0, c.self.invariant.begun))
    c.index.ensures 0 in
    let d = in_codes all ids starts held top c.self.invariant c.args.id place c.args.a c.args.b c.requires.0
    c.in-Some.ensures (ap (λ s. coded s c.args.id) c.self.view_is ∙ c.requires.1) c.requires.2 c.requires.3 in
    omega (arith, d.1, g, c.self.inside.codes.ok.0)

pub returns-in-Some-clause-swapped : goal.returns-in-Some-clause-swapped
returns-in-Some-clause-swapped c = λ clause h.
    let all = c.self.inside.codes.items in
    let ids = c.self.inside.ids in
    let starts = c.self.inside.starts.items in
    let held = c.self.inside.held.items in
    let top = above c.self.inside.last in
    let place = c.in-Some.place in
    let g : c.index.result.now ≡ number_at starts place =
    get_or_read starts place c.index.result.now (omega (arith, c.in-Some.ensures.0, c.self.invariant.begun))
    c.index.ensures 0 in
    let k : length c.requires.0 ≡ length clause = ap length (some_is c.requires.0 clause (sym c.requires.1 ∙ h)) in
    exchanged all ids starts held top c.self.invariant c.args.id place c.args.a c.args.b clause c.swap.new.self.items
    c.in-Some.ensures (ap (λ s. coded s c.args.id) c.self.view_is ∙ h) (omega (arith, c.requires.2, k))
    (omega (arith, c.requires.3, k))
    (c.swap.ensures.items ∙ ap (λ z. swap all (z + c.args.a) (z + c.args.b)) g)
    ∙ ap (λ s. with_code (coded s) c.args.id (swap clause c.args.a c.args.b)) c.self.view_is

pub returns-in_default-clause-swapped : goal.returns-in_default-clause-swapped
returns-in_default-clause-swapped c = λ clause h.
    let all = c.self.inside.codes.items in
    let ids = c.self.inside.ids in
    let starts = c.self.inside.starts.items in
    let held = c.self.inside.held.items in
    let top = above c.self.inside.last in
    absurd (none_some clause (sym (holds_none all ids starts held top c.self.invariant c.args.id c.in_default.ensures)
    ∙ ap (λ s. coded s c.args.id) c.self.view_is ∙ h))
