use Rattle.std.specs.Prelude.{length}
use Rattle.std.proofs.Common.{ap, sym, ◌∙◌, subst}
use Rattle.wn_opt.specs.Table.{IsTableOf}
use Rattle.wn_opt.proofs.Onces.{cut_fewer, cut_is, cut_regs, cut_whole, table_added}
use Rattle.wn_opt.proofs.Tables.{table_like, table_more}
use Rattle.wn_opt.proofs.once.add.Goals as goal

pub cut-requires-clause-nodes : goal.cut-requires-clause-nodes
cut-requires-clause-nodes c =
    cut_fewer c.args.net.now c.build.new.net c.args.node (length c.nodes-nodes.result.now) c.in_ok-id.ensures.new
    (ap length c.nodes-nodes.ensures.value)

pub cut-requires-clause-regs : goal.cut-requires-clause-regs
cut-requires-clause-regs c =
    cut_regs c.args.net.now c.build.new.net c.args.node (length c.regs-regs.result.now) c.in_ok-id.ensures.new
    (ap length c.regs-regs.ensures.value)

pub cut-requires-clause-whole : goal.cut-requires-clause-whole
cut-requires-clause-whole c =
    cut_whole c.args.net.now c.build.new.net c.args.node (length c.nodes-nodes.result.now)
    (length c.regs-regs.result.now) c.in_ok-id.ensures.new (ap length c.nodes-nodes.ensures.value)
    (ap length c.regs-regs.ensures.value) c.nodes-nodes.ensures.whole

pub returns-in-Ok-clause-table : goal.returns-in-Ok-clause-table
returns-in-Ok-clause-table c =
    table_added c.args.net.now c.build.new.net c.args.table.now c.put.new.self c.args.node c.in_ok-id.id
    c.in_ok-id.ensures.new
    (table_more c.args.net.now.nodes c.args.table.now c.put.new.self c.args.node c.in_ok-id.id c.requires.table
    c.requires.operator c.requires.absent c.in_ok-id.ensures.last c.in-Ok.ensures.here c.in-Ok.ensures.others)

pub returns-in-Err-clause-same : goal.returns-in-Err-clause-same
returns-in-Err-clause-same c =
    c.cut.ensures
    ∙ cut_is c.args.net.now c.build.new.net c.args.node (length c.nodes-nodes.result.now)
    (length c.regs-regs.result.now) c.in_ok-id.ensures.new (ap length c.nodes-nodes.ensures.value)
    (ap length c.regs-regs.ensures.value)

pub returns-in-Err-clause-table : goal.returns-in-Err-clause-table
returns-in-Err-clause-table c =
    let same = c.cut.ensures
    ∙ cut_is c.args.net.now c.build.new.net c.args.node (length c.nodes-nodes.result.now)
    (length c.regs-regs.result.now) c.in_ok-id.ensures.new (ap length c.nodes-nodes.ensures.value)
    (ap length c.regs-regs.ensures.value) in
    subst (λ m. IsTableOf m.nodes c.put.new.self) (sym same)
    (table_like c.args.net.now.nodes c.args.table.now c.put.new.self c.in-Err.ensures.same c.requires.table)
