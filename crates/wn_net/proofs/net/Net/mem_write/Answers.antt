use Rattle.wn_net.proofs.Left.{set-with_write, write_kept, write_is, write_keeps, write_grows}
use Rattle.wn_net.proofs.net.Net.mem_write.Goals as goal

pub invariant_of-self-2 : goal.invariant_of-self-2
invariant_of-self-2 c =
    write_kept _ _ c.args.mem c.args.write _ _ c.self.invariant c.self.view_is c.requires.write
    (set-with_write c.args.mem c.args.write c.self.inside.mems.items c.index_mut-changed.result.now _
    c.index_mut-changed.ensures.value
    c.in_ok-push.ensures.ok)

pub returns-clause-new : goal.returns-clause-new
returns-clause-new c =
    write_is _ _ c.args.mem c.args.write _ c.self.view_is
    (set-with_write c.args.mem c.args.write c.self.inside.mems.items c.index_mut-changed.result.now _
    c.index_mut-changed.ensures.value
    c.in_ok-push.ensures.ok)

pub returns-clause-keeps : goal.returns-clause-keeps
returns-clause-keeps c =
    write_keeps _ _ c.args.mem c.args.write _ c.self.invariant.whole c.self.view_is
    (set-with_write c.args.mem c.args.write c.self.inside.mems.items c.index_mut-changed.result.now _
    c.index_mut-changed.ensures.value
    c.in_ok-push.ensures.ok)

pub returns-clause-grows : goal.returns-clause-grows
returns-clause-grows c =
    write_grows _ _ c.args.mem c.args.write _ c.self.invariant.whole c.self.view_is
    (set-with_write c.args.mem c.args.write c.self.inside.mems.items c.index_mut-changed.result.now _
    c.index_mut-changed.ensures.value
    c.in_ok-push.ensures.ok)
