use Rattle.std.proofs.Common.{ap, ◌∙◌}
use Rattle.sat_propagate.specs.Watching.{lists_of}
use Rattle.sat_propagate.proofs.ListSteps.{pushed}
use Rattle.sat_propagate.proofs.lists.Lists.push.Goals as goal

pub returns : goal.returns
returns c =
    pushed c.widen.new.lists.items c.args.code c.index_mut.result.now c.push.new.self c.args.watch
    (lists_of c.args.self.now) (c.in_ok-widen.ensures.same ∙ ap lists_of c.self.view_is) c.in_ok-widen.ensures.within
    c.index_mut.ensures.value c.in_ok-push.ensures.items
