use Rattle.std.proofs.Common.{◌<◌, length, ap, ◌∙◌, arith}
use Rattle.sat_propagate.specs.Watching.{lists_of}
use Rattle.sat_propagate.proofs.ListSteps.{took}
use Rattle.sat_propagate.proofs.lists.Lists.take.Goals as goal

pub returns-then-place-len-clause-rest : goal.returns-then-place-len-clause-rest
returns-then-place-len-clause-rest c =
    let l : c.args.code < length c.self.inside.lists.items =
    omega (arith, c.if-place-len.true, c.len.ensures, c.self.inside.lists.ok.0) in
    took c.self.inside.lists.items c.args.code c.swap.new.x (lists_of c.args.self.now) (ap lists_of c.self.view_is) l
    (ap (λ v. v.items) c.swap.ensures.x_after ∙ c.requires)
