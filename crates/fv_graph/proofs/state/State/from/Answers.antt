use Rattle.std.proofs.Common.{rules, arith, ap, sym, ◌∙◌, subst, ◌≡◌, [], ◌++◌}
use Rattle.std.proofs.lemmas.Grind.{common_steps}
use Rattle.fv_graph.specs.Walking.{Walks}
use Rattle.fv_graph.proofs.Turns.{begun_walk, fewer_both, fewer_opened, no_more_new}
use Rattle.fv_graph.proofs.state.State.from.Goals as goal

pub loop-step-init : goal.loop-step-init
loop-step-init c = (
  begun_walk c.args.graph.now c.args.self.now.progress.items c.args.self.now.path.items c.args.self.now.done.items
      c.args.node c.requires.walks c.requires.empty c.requires.new c.open.new.self.progress.items
      c.open.new.self.path.items c.open.new.self.done.items c.in_ok-open.ensures.ok.0 c.in_ok-open.ensures.ok.1
      (ap (λ v. v.items) c.open.ensures.done),
  λ i e. e,
)

pub returns : goal.returns
returns c =
    let gone : c.pop.new.self.items ≡ [] = first_of (search rules, grind (arith, common_steps)) in
    let was : c.loop-step.self.path.items ≡ [] = c.in_default.ensures.items ∙ ap (λ x. x ++ []) gone in (
      subst (λ x. Walks c.args.graph.now c.loop-step.self.progress.items x c.loop-step.self.done.items)
          (was ∙ sym gone) c.loop-step.invariant.0,
      gone,
      fewer_both c.args.self.now.progress.items c.open.new.self.progress.items c.loop-step.self.progress.items
          (fewer_opened c.args.self.now.progress.items c.open.new.self.progress.items c.args.node c.requires.new
          c.in_ok-open.ensures.ok.0) c.loop-step.invariant.1,
      no_more_new c.args.self.now.progress.items c.open.new.self.progress.items c.loop-step.self.progress.items
          c.args.node c.requires.new c.in_ok-open.ensures.ok.0 c.loop-step.invariant.1,
    )
