use Rattle.wn_net.proofs.Kept.{kept_cut_by}
use Rattle.wn_net.proofs.net.Net.cut.Goals as goal

pub invariant_of-self : goal.invariant_of-self
invariant_of-self c =
    rw (c.truncate.ensures.items, c.truncate-2.ensures.items, c.truncate-3.ensures.items)
    (kept_cut_by c.args.nodes c.args.regs _ _ _ c.self.invariant c.self.view_is c.requires.nodes c.requires.whole)
