use Rattle.std.proofs.Common.{arith}
use Rattle.wn_net.proofs.Left.{reg_kept, reg_built}
use Rattle.wn_net.proofs.net.Net.reg.Goals as goal

pub invariant_of-self-in-Ok : goal.invariant_of-self-in-Ok
invariant_of-self-in-Ok c =
    reg_kept _ _ (record {
      width = c.args.width;
      init = c.args.init;
      next = c.len-next.result;
    }) c.len-count.result _ _ _ _
    c.self.invariant c.self.view_is (c.requires.some, c.requires.few) c.requires.init (omega arith) c.requires.room
    (omega arith) c.in-Ok.ensures.nodes c.in_ok-push.ensures.items c.in-Ok.ensures.widths

pub returns-in-Ok-clause-built : goal.returns-in-Ok-clause-built
returns-in-Ok-clause-built c =
    reg_built _ _ c.args.width c.args.init c.len-next.result c.len-count.result c.in-Ok.id _ _ c.self.invariant.whole
    c.self.view_is
    (omega arith) c.in-Ok.ensures.nodes c.in_ok-push.ensures.items c.in-Ok.ensures.last (omega arith)
