-- A net with its port is loaded.
use Rattle.std.specs.Prelude.{◌≡◌, ℕ, ◌+◌, ◌≤◌, List, length, map, sum, Bool, true, false}
use Rattle.std.specs.Prelude.{None, Option, Some, Result, Ok, Err}
use Rattle.std.proofs.Common.{sym, ◌∙◌, subst, true≢false}
use Rattle.rv_table.specs.declared.retire.Opts.{Opts}
use Rattle.std.proofs.lemmas.List.Elements.{recursion_from_All}
use Rattle.vl_mean.specs.FlatLaw.{IsKept}
use Rattle.vl_mean.specs.FlatParts.{flat_parts}
use Rattle.vl_lower_spec.specs.Evaluations.{IsLowered}
use Rattle.vl_lower_cell_laws.specs.Few.{AreFew}
use Rattle.vl_flow.specs.declared.ordered.Ordered.{Ordered}
use Rattle.wn_net.specs.declared.parts.Mem.{Mem}
use Rattle.wn_net.specs.declared.names.Names.{Names}
use Rattle.wn_net.specs.Net.{Netlist, IsNet}
use Rattle.wn_net.specs.Changes.{AddsNodes}
use Rattle.rvfi_port.specs.declared.fault.PortFault.{PortFault}
use Rattle.rvfi_port.specs.declared.fault.PortFault.TheVariants as port_fault
use Rattle.rvfi_port.specs.declared.port.Wants.{Wants}
use Rattle.rvfi_port.specs.Channels.{IsDmem, IsImem, IsPortOf}
use Rattle.rvfi_port.specs.Outputs.{Answered, refusal}
use Rattle.ck_design.specs.Loaded.{BoundNetsAreLoaded}
use Rattle.ck_gen.specs.Monitors.{IsThere}
use Rattle.ck_design.specs.Traces.{HaveOwnNames}
use Rattle.rvf_load.specs.Loads.{too_heavy, weight_of}
use Rattle.rvf_load.specs.Ports.{port_refusal}
use Rattle.rvf_load.proofs.Outputs.{by_outputs}
use Rattle.rvf_load.specs.Stages.{IsNetOf, IsNetted, IsWeighed, of_port}
use Rattle.rvf_load.specs.declared.loaded.Loaded.{Loaded}
use Rattle.rvf_load.specs.declared.fault.LoadFault.{LoadFault}
use Rattle.rvf_load.specs.declared.fault.LoadFault.TheVariants as fault

-- nodes that are added leave inputs, registers and memories as they are
still_few : (old new : Netlist) → AddsNodes old new → AreFew old → AreFew new
still_few old new adds few = record {
  inputs = subst (λ xs. length xs ≤ 1000000) (sym adds.inputs) few.inputs;
  state =
      subst (λ rs. length rs + sum (map (λ m. m.words) new.mems) ≤ 50000000) (sym adds.regs)
      (subst (λ (ms : List Mem). length old.regs + sum (map (λ m. m.words) ms) ≤ 50000000) (sym adds.mems) few.state);
}

-- what is probed has its nodes
has_imem : (old new : Netlist) (names : Names) (wanted : Bool) (probe : Option (ℕ × ℕ))
    → IsImem old new names wanted probe → wanted ≡ true → IsThere probe
has_imem old new names true None h e = h
has_imem old new names true (Some p) h e = tt
has_imem old new names false None h e = absurd (true≢false (sym e))
has_imem old new names false (Some p) h e = absurd h

has_dmem : (old new : Netlist) (names : Names) (wanted : Bool) (probe : Option ℕ) → IsDmem old new names wanted probe
    → wanted ≡ true → IsThere probe
has_dmem old new names true None h e = h
has_dmem old new names true (Some p) h e = tt
has_dmem old new names false None h e = absurd (true≢false (sym e))
has_dmem old new names false (Some p) h e = absurd h

-- the names of the net refuse the port as the declared outputs do
of_design : (ordered : Ordered) (net : Netlist) (names : Names) (channels : ℕ) (wants : Wants)
    → IsLowered (flat_parts ordered.flat) net names
    → refusal names channels wants ≡ port_refusal ordered.flat.decls channels wants
of_design ordered net names channels wants lowered =
    by_outputs ordered.flat.decls ordered.flat.drivers ordered.flat.starts
    (recursion_from_All IsKept ordered.flat.decls ordered.flat.lawful.kept) names lowered.entries channels wants

pub bound_net : (ordered : Ordered) (old : Netlist) (l : Loaded) (channels : ℕ) (wants : Wants) (opts : Opts)
    → BoundNetsAreLoaded → HaveOwnNames (flat_parts ordered.flat) → IsLowered (flat_parts ordered.flat) old l.names
    → AreFew old → IsNet old → IsNet l.net → AddsNodes old l.net → IsPortOf old l.net l.names channels wants l.port
    → refusal l.names channels wants ≡ None → l.opts ≡ opts → l.weight ≡ ordered.weight
    → IsNetOf ordered channels wants opts l
bound_net ordered old l channels wants opts law own lowered few before after adds is_port none options weight = record {
  loaded = law (flat_parts ordered.flat) old l.net l.names channels wants l.port lowered before after adds is_port none;
  bound = sym (of_design ordered old l.names channels wants lowered) ∙ none;
  few = still_few old l.net adds few;
  own = own;
  options = options;
  weighed = weight ∙ ordered.weighed;
  imem = has_imem old l.net l.names wants.imem l.port.imem is_port.imem;
  dmem = has_dmem old l.net l.names wants.dmem l.port.dmem is_port.dmem;
}

pub unbound : (ordered : Ordered) (net : Netlist) (names : Names) (channels : ℕ) (wants : Wants) (opts : Opts)
    (f : PortFault) → IsLowered (flat_parts ordered.flat) net names → Answered f (refusal names channels wants)
    → IsNetted ordered channels wants opts (Err (of_port f))
unbound ordered net names channels wants opts port_fault.Memory lowered h = tt
unbound ordered net names channels wants opts (port_fault.Missing field) lowered h =
    sym (of_design ordered net names channels wants lowered) ∙ h
unbound ordered net names channels wants opts (port_fault.Width field bits wanted) lowered h =
    sym (of_design ordered net names channels wants lowered) ∙ h
unbound ordered net names channels wants opts port_fault.NeedsAligned lowered h =
    sym (of_design ordered net names channels wants lowered) ∙ h

-- what comes of a design that is light enough
pub light : (factors : List ℕ) (ordered : Ordered) (channels : ℕ) (wants : Wants) (opts : Opts)
    (result : Result Loaded LoadFault) → too_heavy (weight_of ordered.flat) 0 factors ≡ None
    → IsNetted ordered channels wants opts result → IsWeighed factors ordered channels wants opts result
light factors ordered channels wants opts (Ok l) e h = (e, h)
light factors ordered channels wants opts (Err (fault.Text f)) e h = h
light factors ordered channels wants opts (Err (fault.Elab f)) e h = h
light factors ordered channels wants opts (Err (fault.Flow f)) e h = h
light factors ordered channels wants opts (Err (fault.Heavy place product)) e h = absurd h
light factors ordered channels wants opts (Err (fault.Port f)) e h = (e, h)
light factors ordered channels wants opts (Err fault.Memory) e h = tt
