use Rattle.std.proofs.Common.{ap, sym, arith}
use Rattle.fv_graph.proofs.Turns.{to_end, node_within}
use Rattle.fv_graph.proofs.state.State.turn.Goals as goal

pub next_target-requires : goal.next_target-requires
next_target-requires c =
    node_within c.args.graph.now c.args.self.now.progress.items c.args.self.now.path.items c.args.self.now.done.items
    c.args.step c.requires.walks

pub finish-requires : goal.finish-requires
finish-requires c =
    let less = node_within c.args.graph.now c.args.self.now.progress.items c.args.self.now.path.items
    c.args.self.now.done.items c.args.step c.requires.walks in
    omega (arith, less, c.requires.walks.size)

pub follow-requires-clause-within : goal.follow-requires-clause-within
follow-requires-clause-within c =
    c.requires.within c.args.step.node c.in-Some.target (c.args.step.next, sym c.in-Some.ensures.target)

pub returns-in_ok-finish-in-None : goal.returns-in_ok-finish-in-None
returns-in_ok-finish-in-None c =
    to_end c.args.graph.now c.args.self.now.progress.items c.args.self.now.path.items c.args.self.now.done.items
    c.args.step c.requires.walks (sym c.in-None.ensures.target) c.finish.new.self.progress.items
    c.finish.new.self.path.items c.finish.new.self.done.items c.in_ok-finish-in-None.ensures.ok.0
    (ap (λ v. v.items) c.finish.ensures.path) c.in_ok-finish-in-None.ensures.ok.1
