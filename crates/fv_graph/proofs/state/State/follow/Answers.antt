use Rattle.std.proofs.Common.{rules, ◌≡◌, ap, ◌∙◌, get_or, slice_set, ◌++◌, ◌∷◌, []}
use Rattle.fv_graph.specs.declared.state.Progress.TheVariants as p
use Rattle.fv_graph.proofs.Moves.{begun}
use Rattle.fv_graph.proofs.Turns.{to_new, to_open, to_done, stands_as}
use Rattle.fv_graph.proofs.state.State.follow.Goals as goal

pub returns-in_ok-open-in-New : goal.returns-in_ok-open-in-New
returns-in_ok-open-in-New c =
    let read : get_or c.as_slice.result.now c.args.target p.New ≡ p.New = search (rules, c.in-New.is) in
    let kept = ap (λ v. v.items) c.push.ensures.progress in
    to_new c.args.graph.now c.args.self.now.progress.items c.args.self.now.path.items c.args.self.now.done.items
    c.args.step c.requires.walks c.args.target c.requires.target
    (stands_as c.args.graph.now c.args.self.now.progress.items c.as_slice.result.now c.args.target p.New
    c.requires.walks.size c.requires.within (c.as_slice.ensures.value ∙ kept) read)
    c.open.new.self.progress.items c.open.new.self.path.items c.open.new.self.done.items
    (c.in_ok-open-in-New.ensures.ok.0 ∙ ap (λ xs. slice_set xs c.args.target p.Open) kept)
    (c.in_ok-open-in-New.ensures.ok.1 ∙ ap (λ xs. xs ++ begun c.args.target ∷ []) c.in_ok-push.ensures.ok)
    (ap (λ v. v.items) (c.open.ensures.done ∙ c.push.ensures.done))

pub returns-in-Open : goal.returns-in-Open
returns-in-Open c =
    let read : get_or c.as_slice.result.now c.args.target p.New ≡ p.Open = search (rules, c.in-Open.is) in
    let kept = ap (λ v. v.items) c.push.ensures.progress in
    to_open c.args.graph.now c.args.self.now.progress.items c.args.self.now.path.items c.args.self.now.done.items
    c.args.step c.requires.walks c.args.target c.requires.target
    (stands_as c.args.graph.now c.args.self.now.progress.items c.as_slice.result.now c.args.target p.Open
    c.requires.walks.size c.requires.within (c.as_slice.ensures.value ∙ kept) read)
    c.push.new.self.path.items c.in_ok-push.ensures.ok

pub returns-in-Done : goal.returns-in-Done
returns-in-Done c =
    let read : get_or c.as_slice.result.now c.args.target p.New ≡ p.Done = search (rules, c.in-Done.is) in
    let kept = ap (λ v. v.items) c.push.ensures.progress in
    to_done c.args.graph.now c.args.self.now.progress.items c.args.self.now.path.items c.args.self.now.done.items
    c.args.step c.requires.walks c.args.target c.requires.target
    (stands_as c.args.graph.now c.args.self.now.progress.items c.as_slice.result.now c.args.target p.Done
    c.requires.walks.size c.requires.within (c.as_slice.ensures.value ∙ kept) read)
    c.push.new.self.progress.items c.push.new.self.path.items c.push.new.self.done.items kept c.in_ok-push.ensures.ok
    (ap (λ v. v.items) c.push.ensures.done)
