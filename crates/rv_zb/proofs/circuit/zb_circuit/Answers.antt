use Rattle.std.specs.Prelude.{length}
use Rattle.std.proofs.Common.{sym, ◌∙◌, subst}
use Rattle.wn_net.specs.Net.{Netlist, IsNet}
use Rattle.wn_net.specs.Changes.{cut_to}
use Rattle.wn_net.proofs.Laws.{cut_nodes_back}
use Rattle.rv_zb.proofs.circuit.zb_circuit.Goals as goal

pub cut-requires-clause-whole : goal.cut-requires-clause-whole
cut-requires-clause-whole c =
    let P : Netlist → Type 0 = λ n. IsNet n in
    let same = (λ i. cut_to (length (c.nodes-nodes.ensures.value i)) (length (c.regs-regs.ensures.value i))
    c.add_circuit.new.net) ∙ cut_nodes_back c.args.net.now c.add_circuit.new.net c.in-Err.ensures.adds in
    subst P (sym same) c.nodes-nodes.ensures.whole
