use Rattle.wn_net.proofs.Left.{mem_kept, mem_grows}
use Rattle.wn_net.proofs.net.Net.mem.Goals as goal

pub invariant_of-self-2 : goal.invariant_of-self-2
invariant_of-self-2 c =
    mem_kept _ _ (record {
      width = c.args.width;
      words = c.args.words;
      init = c.args.init;
      writes = c.new-writes.result;
    }) _ _
    c.self.invariant c.self.view_is (c.requires.some, c.requires.few) c.requires.words c.requires.each c.requires.init
    c.new-writes.ensures c.requires.room c.in_ok-push.ensures.items

pub returns-clause-grows : goal.returns-clause-grows
returns-clause-grows c =
    mem_grows _ _ (record {
      width = c.args.width;
      words = c.args.words;
      init = c.args.init;
      writes = c.new-writes.result;
    }) _
    c.self.invariant.whole c.self.view_is c.in_ok-push.ensures.items
