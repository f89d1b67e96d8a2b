use Rattle.std.proofs.Common.{◌++◌, ap, ◌∙◌}
use Rattle.sat_propagate.specs.Watching.{lists_of}
use Rattle.sat_propagate.proofs.ListSteps.{put}
use Rattle.sat_propagate.proofs.lists.Lists.put_back.Goals as goal

pub returns-clause-lists : goal.returns-clause-lists
returns-clause-lists c =
    put c.widen.new.lists.items c.args.code c.index.result.now c.swap.new.x c.args.watches.now.items
    (lists_of c.args.self.now) (c.in_ok-widen.ensures.same ∙ ap lists_of c.self.view_is) c.in_ok-widen.ensures.within
    c.index.ensures (ap (λ v. v.items) c.swap.ensures.x_after ∙ c.in_ok-extend_from_slice.ensures.items
    ∙ ap (λ z. c.args.watches.now.items ++ z) c.as_slice.ensures.value)
