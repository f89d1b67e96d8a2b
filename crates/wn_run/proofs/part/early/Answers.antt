use Rattle.std.specs.Prelude.{◌≡◌, ℕ, ◌+◌, ◌≤◌, List, length, map}
use Rattle.std.proofs.Common.{ap, arith, sym, ◌∙◌, subst}
use Rattle.wn_net.specs.declared.parts.Reg.{Reg}
use Rattle.wn_net.specs.declared.parts.Mem.{Mem}
use Rattle.wn_net.specs.Net.{Netlist, IsNet}
use Rattle.wn_net.specs.Changes.{AddsNodes, cut_to}
use Rattle.wn_net.proofs.Laws.{adds_none}
use Rattle.wn_run.proofs.Front.{cut_whole, cut_adds, below_more, mems_more}
use Rattle.wn_run.specs.Named.{AreBelow, AreRegsBelow, AreMemsBelow}
use Rattle.wn_run.proofs.part.early.Goals as goal
use Rattle.wn_run.proofs.part.early.Goals.{then-last-nodes, else-last-nodes}

pub cut-requires-clause-whole : goal.cut-requires-clause-whole
cut-requires-clause-whole c =
    let net = c.args.net.now in
    let n = c.last_of_nodes-last.result + 1 in
    let k = length c.regs-regs.result.now in
    let same : c.in_ok-part.part ≡ net = c.in_ok-part.ensures in
    let all : k ≡ length net.regs = ap length (c.regs-regs.ensures.value ∙ ap (λ m. m.regs) same) in
    let within : n ≤ length net.nodes = omega (
      arith,
      c.if-last-nodes.true,
      ap length (c.nodes.ensures.value ∙ ap (λ m. m.nodes) same),
    ) in
    let Regs : List Reg → Type 0 = λ rs. AreRegsBelow rs n in
    let Mems : List Mem → Type 0 = λ ms. AreMemsBelow ms n in
    let Ids : List ℕ → Type 0 = λ ids. AreBelow ids n in
    let P : Netlist → Type 0 = λ m. IsNet (cut_to n k m) in
    let regs_first : c.last_of_regs-last.result + 1 ≤ n = omega (
      arith,
      c.last_of_mems-last.ensures.more,
      c.last_of_nodes-last.ensures.more,
    ) in
    let mems_first : c.last_of_mems-last.result + 1 ≤ n = omega (arith, c.last_of_nodes-last.ensures.more) in
    let regs = subst Regs c.regs.ensures.value (below_more (map (λ r. r.next) c.regs.result.now)
    (c.last_of_regs-last.result + 1) n regs_first c.last_of_regs-last.ensures.below) in
    let mems = subst Mems c.mems.ensures.value (mems_more c.mems.result.now
    (c.last_of_mems-last.result + 1) n mems_first c.last_of_mems-last.ensures.below) in
    let assumes = subst Ids c.assumes.ensures.value c.last_of_nodes-last.ensures.below in
    subst P (sym same) (cut_whole n k net all within c.regs.ensures.whole regs mems assumes)

pub returns : goal.returns
returns c =
    let net = c.args.net.now in
    let n = c.last_of_nodes-last.result + 1 in
    let same : c.in_ok-part.part ≡ net = c.in_ok-part.ensures in
    let P : Netlist → Type 0 = λ m. AddsNodes m net in
    elim c.if-last-nodes.branch [
      | then-last-nodes w ↦
          let k = length w.regs-regs.result.now in
          let all : k ≡ length net.regs = ap length (w.regs-regs.ensures.value ∙ ap (λ m. m.regs) same) in
          let within : n ≤ length net.nodes = omega (
            arith,
            w.if-last-nodes.true,
            ap length (c.nodes.ensures.value ∙ ap (λ m. m.nodes) same),
          ) in
          subst P (sym (w.part-is ∙ w.cut.ensures ∙ ap (λ m. cut_to n k m) same)) (cut_adds n k net all within)
      | else-last-nodes w ↦ subst P (sym (w.part-is ∙ same)) (adds_none net)
    ]
