use Rattle.wn_net.proofs.Left.{set-with_next, next_kept, next_is, next_keeps, next_grows}
use Rattle.wn_net.proofs.net.Net.set_next.Goals as goal

pub invariant_of-self : goal.invariant_of-self
invariant_of-self c =
    next_kept _ _ c.args.reg c.args.next _ _ c.self.invariant c.self.view_is c.requires.next
    (set-with_next c.args.reg c.args.next c.self.inside.regs.items c.index_mut.result.now c.index_mut.ensures.value)

pub returns-clause-new : goal.returns-clause-new
returns-clause-new c =
    next_is _ _ c.args.reg c.args.next _ c.self.view_is
    (set-with_next c.args.reg c.args.next c.self.inside.regs.items c.index_mut.result.now c.index_mut.ensures.value)

pub returns-clause-keeps : goal.returns-clause-keeps
returns-clause-keeps c =
    next_keeps _ _ c.args.reg c.args.next _ c.self.invariant.whole c.self.view_is
    (set-with_next c.args.reg c.args.next c.self.inside.regs.items c.index_mut.result.now c.index_mut.ensures.value)

pub returns-clause-grows : goal.returns-clause-grows
returns-clause-grows c =
    next_grows _ _ c.args.reg c.args.next _ c.self.invariant.whole c.self.view_is
    (set-with_next c.args.reg c.args.next c.self.inside.regs.items c.index_mut.result.now c.index_mut.ensures.value)
