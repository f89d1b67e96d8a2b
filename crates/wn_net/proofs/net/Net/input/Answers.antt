use Rattle.std.proofs.Common.{arith}
use Rattle.wn_net.proofs.Left.{input_kept, input_built}
use Rattle.wn_net.proofs.net.Net.input.Goals as goal

pub invariant_of-self-in-Ok : goal.invariant_of-self-in-Ok
invariant_of-self-in-Ok c =
    input_kept _ _ (record {
      width = c.args.width;
      kind = c.args.kind;
    }) c.len-count.result _ _ _ _ c.self.invariant c.self.view_is
    (c.requires.some, c.requires.few) c.requires.room (omega arith) c.in-Ok.ensures.nodes c.in_ok-push.ensures.items
    c.in-Ok.ensures.widths

pub returns-in-Ok-clause-built : goal.returns-in-Ok-clause-built
returns-in-Ok-clause-built c =
    input_built _ _ (record {
      width = c.args.width;
      kind = c.args.kind;
    }) c.len-count.result c.in-Ok.id _ _ c.self.invariant.whole
    c.self.view_is (omega arith) c.in-Ok.ensures.nodes c.in_ok-push.ensures.items c.in-Ok.ensures.last
