use Rattle.std.specs.Prelude.{◌≡◌, Err, Option, ℕ, List, length}
use Rattle.std.proofs.Common.{rules, sym, ◌∙◌, subst}
use Rattle.rvfi_port.specs.declared.fault.PortFault.{PortFault}
use Rattle.rvfi_port.specs.Fields.{channel_fields}
use Rattle.rvfi_port.specs.Outputs.{AreOutputs, Answered}
use Rattle.rvfi_port.proofs.Whole.{refusal_parts, answered_front, answered_behind, none_of, imem_on, dmem_on}
use Rattle.rvfi_port.proofs.Cut.{outputs_accepted, outputs_reach, channels_shown}
use Rattle.wn_net.specs.Net.{Netlist, IsNet}
use Rattle.wn_net.specs.Changes.{AddsNodes, cut_to}
use Rattle.wn_net.proofs.Laws.{adds_none, cut_nodes_back}
use Rattle.rvfi_port.proofs.bound.bind.Goals as goal

pub cut-requires-clause-whole : goal.cut-requires-clause-whole
cut-requires-clause-whole c =
    let P : Netlist → Type 0 = λ n. IsNet n in
    let same = (λ i. cut_to (length (c.nodes-nodes.ensures.value i)) (length (c.regs-regs.ensures.value i))
    c.bind_channels.new.net) ∙ cut_nodes_back c.args.net.now c.bind_channels.new.net c.in-Err.ensures.adds in
    subst P (sym same) c.nodes-nodes.ensures.whole

pub returns-clause-adds : goal.returns-clause-adds
returns-clause-adds c =
    let net = c.args.net.now in
    let P : Netlist → Type 0 = λ n. AddsNodes net n in
    let same : c.cut.new.self ≡ net =
    c.cut.ensures ∙ (λ i. cut_to (length (c.nodes-nodes.ensures.value i)) (length (c.regs-regs.ensures.value i))
    c.bind_channels.new.net) ∙ cut_nodes_back net c.bind_channels.new.net c.in-Err.ensures.adds in
    subst P (sym same) (adds_none net)

pub returns-in_err-outputs-clause-refused : goal.returns-in_err-outputs-clause-refused
returns-in_err-outputs-clause-refused c =
    let x = c.in_err-outputs.field-0.0 in
    let left : c.from_residual.result ≡ Err x = search rules in
    let P : Option PortFault → Type 0 = λ o. Answered x o in
    rw left (subst P (sym (refusal_parts c.args.names.now c.args.channels c.args.wants))
    (answered_front x _ _ c.in_err-outputs.ensures))

pub returns-in_err-imem-clause-refused : goal.returns-in_err-imem-clause-refused
returns-in_err-imem-clause-refused c =
    let x = c.in_err-imem.field-0.0 in
    let left : c.from_residual-in_err-imem.result ≡ Err x = search rules in
    let P : Option PortFault → Type 0 = λ o. Answered x o in
    rw left (subst P (sym (refusal_parts c.args.names.now c.args.channels c.args.wants))
    (answered_behind x _ _ (outputs_accepted c.args.net.now c.args.names.now c.args.channels channel_fields _
    c.in_ok-outputs.ensures) (answered_front x _ _ c.in_err-imem.ensures.refused)))

pub returns-in_err-dmem-clause-refused : goal.returns-in_err-dmem-clause-refused
returns-in_err-dmem-clause-refused c =
    let x = c.in_err-dmem.field-0.0 in
    let left : c.from_residual-in_err-dmem.result ≡ Err x = search rules in
    let P : Option PortFault → Type 0 = λ o. Answered x o in
    rw left (subst P (sym (refusal_parts c.args.names.now c.args.channels c.args.wants))
    (answered_behind x _ _ (outputs_accepted c.args.net.now c.args.names.now c.args.channels channel_fields _
    c.in_ok-outputs.ensures) (answered_behind x _ _ c.in_ok-imem.ensures.refused c.in_err-dmem.ensures.refused)))

pub bind_channels-requires : goal.bind_channels-requires
bind_channels-requires c =
    let P : List ℕ → Type 0 = λ ids. AreOutputs c.args.net.now c.args.names.now c.args.channels channel_fields ids in
    outputs_reach c.args.net.now c.args.names.now c.args.channels c.as_slice.result.now c.nodes-nodes.ensures.whole
    (subst P (sym c.as_slice.ensures.value) c.in_ok-outputs.ensures)

pub returns-in-Ok-clause-refused : goal.returns-in-Ok-clause-refused
returns-in-Ok-clause-refused c =
    refusal_parts c.args.names.now c.args.channels c.args.wants
    ∙ none_of _ _ (outputs_accepted c.args.net.now c.args.names.now c.args.channels channel_fields _ c.in_ok-outputs.ensures)
    (none_of _ _ c.in_ok-imem.ensures.refused c.in_ok-dmem.ensures.refused)

pub returns-in-Ok-clause-bound : goal.returns-in-Ok-clause-bound
returns-in-Ok-clause-bound c =
    let net = c.args.net.now in
    let new = c.bind_channels.new.net in
    let names = c.args.names.now in
    let more = c.in-Ok.ensures.adds in
    let P : List ℕ → Type 0 = λ ids. AreOutputs net names c.args.channels channel_fields ids in
    record {
      many = c.in-Ok.ensures.many;
      each = channels_shown net new names c.args.channels c.as_slice.result.now 0 c.in-Ok.channels
          (subst P (sym c.as_slice.ensures.value) c.in_ok-outputs.ensures) c.in-Ok.ensures.each;
      imem = imem_on net new names c.args.wants.imem c.in_ok-imem.imem more c.in_ok-imem.ensures.probe;
      dmem = dmem_on net new names c.args.wants.dmem c.in_ok-dmem.dmem more c.in_ok-dmem.ensures.probe;
    }
