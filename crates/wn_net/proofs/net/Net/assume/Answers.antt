use Rattle.wn_net.proofs.Left.{assumed_kept, assume_keeps, assume_grows}
use Rattle.wn_net.proofs.net.Net.assume.Goals as goal

pub invariant_of-self-2 : goal.invariant_of-self-2
invariant_of-self-2 c =
    assumed_kept _ _ c.args.node _ _ c.self.invariant c.self.view_is c.requires c.in_ok-push.ensures.items

pub returns-clause-keeps : goal.returns-clause-keeps
returns-clause-keeps c = assume_keeps _ _ c.args.node _ c.self.view_is c.in_ok-push.ensures.items

pub returns-clause-grows : goal.returns-clause-grows
returns-clause-grows c = assume_grows _ _ c.args.node _ c.self.view_is c.in_ok-push.ensures.items
