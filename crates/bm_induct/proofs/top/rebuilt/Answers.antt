use Rattle.std.specs.Prelude.{length}
use Rattle.std.proofs.Common.{ap, arith, refl}
use Rattle.bm_induct.proofs.Begun.{no_inputs, no_regs, no_mems, no_nodes}
use Rattle.bm_induct.proofs.Rest.{no_nexts, no_mem_writes, no_assumes}
use Rattle.bm_induct.proofs.Final.{waived_is, freed_is}
use Rattle.bm_induct.proofs.top.rebuilt.Goals as goal

pub put_inputs-requires : goal.put_inputs-requires
put_inputs-requires c =
    no_inputs c.args.net.now _ c.new-made.ensures.nodes c.new-made.ensures.regs c.new-made.ensures.mems
    c.new-made.ensures.inputs c.new-made.ensures.assumes

pub put_regs-requires : goal.put_regs-requires
put_regs-requires c =
    no_regs c.args.how c.args.net.now _ (length c.args.net.now.inputs) c.in_ok-put_inputs.ensures refl

pub put_mems-requires : goal.put_mems-requires
put_mems-requires c = no_mems c.args.how c.args.net.now _ (length c.args.net.now.regs) c.in_ok-put_regs.ensures refl

pub put_nodes-requires-clause-begun : goal.put_nodes-requires-clause-begun
put_nodes-requires-clause-begun c =
    no_nodes c.args.how c.args.net.now _ (length c.args.net.now.mems) c.in_ok-put_mems.ensures refl

pub put_nexts-requires-clause-begun : goal.put_nexts-requires-clause-begun
put_nexts-requires-clause-begun c =
    no_nexts c.args.how c.args.net.now _ (length c.args.net.now.nodes) c.in_ok-put_nodes.ensures.nodes refl

pub put_mem_writes-requires-clause-begun : goal.put_mem_writes-requires-clause-begun
put_mem_writes-requires-clause-begun c = no_mem_writes c.args.how c.args.net.now _ c.put_nexts.ensures.nexts

pub put_assumes-requires-clause-begun : goal.put_assumes-requires-clause-begun
put_assumes-requires-clause-begun c =
    no_assumes c.args.how c.args.net.now _ c.in_ok-put_mem_writes.ensures.writes

pub returns-in-Waived-clause-anew : goal.returns-in-Waived-clause-anew
returns-in-Waived-clause-anew c =
    waived_is c.args.how c.args.net.now _ c.nodes-nodes.ensures.whole c.in-Waived.is
    c.in_ok-put_mem_writes.ensures.writes c.in_ok-put_mem_writes.ensures.stand

pub returns-in_ok-put_assumes-in-Freed-clause-anew : goal.returns-in_ok-put_assumes-in-Freed-clause-anew
returns-in_ok-put_assumes-in-Freed-clause-anew c =
    freed_is c.args.how c.args.net.now _ c.nodes-nodes.ensures.whole c.in-Freed.is
    c.in_ok-put_assumes-in-Freed.ensures.assumes c.in_ok-put_assumes-in-Freed.ensures.stand

pub put_nodes-requires-clause-long : goal.put_nodes-requires-clause-long
put_nodes-requires-clause-long c = omega (arith, ap length c.nodes-nodes.ensures.value)

pub put_nexts-requires-clause-long : goal.put_nexts-requires-clause-long
put_nexts-requires-clause-long c = omega (arith, ap length c.nodes-nodes.ensures.value)

pub put_mem_writes-requires-clause-long : goal.put_mem_writes-requires-clause-long
put_mem_writes-requires-clause-long c = omega (arith, ap length c.nodes-nodes.ensures.value)

pub put_assumes-requires-clause-long : goal.put_assumes-requires-clause-long
put_assumes-requires-clause-long c = omega (arith, ap length c.nodes-nodes.ensures.value)

pub returns-in-Waived-clause-few : goal.returns-in-Waived-clause-few
returns-in-Waived-clause-few c = omega (arith, ap length c.nodes-nodes.ensures.value)

pub returns-in_ok-put_assumes-in-Freed-clause-few : goal.returns-in_ok-put_assumes-in-Freed-clause-few
returns-in_ok-put_assumes-in-Freed-clause-few c = omega (arith, ap length c.nodes-nodes.ensures.value)
