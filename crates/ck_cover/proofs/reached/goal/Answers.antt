use Rattle.std.specs.Prelude.{◌≡◌, length}
use Rattle.std.proofs.Common.{sym, ◌∙◌, subst}
use Rattle.wn_net.specs.Net.{Netlist, IsNet}
use Rattle.wn_net.specs.Changes.{AddsNodes, cut_to}
use Rattle.wn_net.proofs.Laws.{adds_none, cut_nodes_back}
use Rattle.ck_cover.proofs.reached.goal.Goals as goal

pub cut-requires-clause-whole : goal.cut-requires-clause-whole
cut-requires-clause-whole c =
    let P : Netlist → Type 0 = λ n. IsNet n in
    let same = (λ i. cut_to (length (c.nodes-nodes.ensures.value i)) (length (c.regs-regs.ensures.value i))
    c.add_goal.new.net) ∙ cut_nodes_back c.args.net.now c.add_goal.new.net c.in-Err.ensures.adds in
    subst P (sym same) c.nodes-nodes.ensures.whole

pub returns-in-Err-clause-adds : goal.returns-in-Err-clause-adds
returns-in-Err-clause-adds c =
    let net = c.args.net.now in
    let P : Netlist → Type 0 = λ n. AddsNodes net n in
    let same : c.cut.new.self ≡ net =
    c.cut.ensures ∙ (λ i. cut_to (length (c.nodes-nodes.ensures.value i)) (length (c.regs-regs.ensures.value i))
    c.add_goal.new.net) ∙ cut_nodes_back net c.add_goal.new.net c.in-Err.ensures.adds in
    subst P (sym same) (adds_none net)
