use Rattle.std.specs.Prelude.{false, length, replicate}
use Rattle.std.proofs.Common.{ap, ◌∙◌}
use Rattle.wn_opt.proofs.Walking.{walks_first}
use Rattle.wn_opt.proofs.marks.Marks.new.Goals as goal

pub returns-clause-walks : goal.returns-clause-walks
returns-clause-walks c =
    walks_first c.args.net.now c.args.roots.now _ c.nodes.ensures.whole c.requires (record {
      nodes = c.in_ok-node_marks.ensures ∙ ap (λ k. replicate k false) (ap length c.nodes.ensures.value);
      regs = c.in_ok-reg_marks.ensures ∙ ap (λ k. replicate k false) (ap length c.regs.ensures.value);
      mems = c.in_ok-mem_marks.ensures ∙ ap (λ k. replicate k false) (ap length c.mems.ensures.value);
      list = c.new.ensures.items;
    })
