-- Between functions: What the parts of loading come to, one behind the other. Rules of this project.
use Rattle.std.specs.Prelude.{◌≡◌, ℕ, List, None, Some, true, Result, Ok, Err}
use Rattle.rv_table.specs.declared.retire.Opts.{Opts}
use Rattle.vl_tree.specs.declared.source.Module.{Module}
use Rattle.vl_mean.specs.declared.flat.Flat.{Flat}
use Rattle.vl_mean.specs.FlatParts.{flat_parts}
use Rattle.vl_elab_spec.specs.Refused as elab
use Rattle.vl_elab.specs.declared.reason.Reason.{Reason}
use Rattle.vl_elab.specs.declared.reason.Reason.TheVariants as reason
use Rattle.vl_flow.specs.declared.ordered.Ordered.{Ordered}
use Rattle.vl_flow.specs.Faults.{IsFault}
use Rattle.vl_flow.specs.declared.fault.FlowFault.{FlowFault}
use Rattle.vl_flow.specs.declared.fault.FlowFault.TheVariants as flow
use Rattle.vl_lower_cell_laws.specs.Few.{AreFew}
use Rattle.rvfi_port.specs.declared.fault.PortFault.{PortFault}
use Rattle.rvfi_port.specs.declared.fault.PortFault.TheVariants as port_fault
use Rattle.rvfi_port.specs.declared.port.Wants.{Wants}
use Rattle.ck_design.specs.Loaded.{IsLoaded}
use Rattle.ck_gen.specs.Monitors.{IsThere}
use Rattle.ck_design.specs.Traces.{HaveOwnNames}
use Rattle.vl_text.specs.declared.fault.TextFault.{TextFault}
use Rattle.vl_text.specs.declared.fault.TextFault.TheVariants as text
use Rattle.rvf_load.specs.Loads.{Asked, IsFlat, IsLoadedFrom, IsRefused, too_heavy, top, weight_of}
use Rattle.rvf_load.specs.Ports.{port_refusal}
use Rattle.rvf_load.specs.declared.loaded.Loaded.{Loaded}
use Rattle.rvf_load.specs.declared.fault.LoadFault.{LoadFault}
use Rattle.rvf_load.specs.declared.fault.LoadFault.TheVariants as fault

-- ---- the fault of a part as that of all; want of memory is one for all parts

abbrev pub of_text : TextFault → LoadFault
of_text text.Memory = fault.Memory
of_text f = fault.Text f

abbrev pub of_elab : Reason → LoadFault
of_elab reason.Memory = fault.Memory
of_elab (reason.Refused f) = fault.Elab f

abbrev pub of_flow : FlowFault → LoadFault
of_flow flow.Memory = fault.Memory
of_flow f = fault.Flow f

abbrev pub of_port : PortFault → LoadFault
of_port port_fault.Memory = fault.Memory
of_port f = fault.Port f

-- ---- from modules to their design in order

-- the design of the modules, whose drivers are refused so
pub record HasFlowFault (modules : List Module) (f : FlowFault) : Type 0 where
  pub flat : Flat
  pub is_flat : IsFlat modules flat
  pub refused : IsFault flat.decls flat.drivers f

-- a design without hierarchy in order, or why it has none
abbrev pub IsOrdering : Flat → Result Ordered LoadFault → Type 0
IsOrdering flat (Ok ordered) = ordered.flat ≡ flat
IsOrdering flat (Err (fault.Flow f)) = IsFault flat.decls flat.drivers f
IsOrdering flat (Err fault.Memory) = Unit {0}
IsOrdering flat (Err f) = ⊥

-- the design of the modules is in order, or why it isn't
abbrev pub IsInOrder : List Module → Result Ordered LoadFault → Type 0
IsInOrder modules (Ok ordered) = IsFlat modules ordered.flat
IsInOrder modules (Err (fault.Elab f)) = elab.refusal modules top ≡ Some f
IsInOrder modules (Err (fault.Flow f)) = HasFlowFault modules f
IsInOrder modules (Err fault.Memory) = Unit {0}
IsInOrder modules (Err f) = ⊥

-- ---- from a design in order to its net

-- the net is the design's, and its port is bound
pub record IsNetOf (ordered : Ordered) (channels : ℕ) (wants : Wants) (opts : Opts) (l : Loaded) : Type 0 where
  pub loaded : IsLoaded (flat_parts ordered.flat) l.net l.names channels wants l.port
  pub bound : port_refusal ordered.flat.decls channels wants ≡ None
  pub few : AreFew l.net
  pub own : HaveOwnNames (flat_parts ordered.flat)
  pub options : l.opts ≡ opts
  pub weighed : l.weight ≡ weight_of ordered.flat
  pub imem : wants.imem ≡ true → IsThere l.port.imem
  pub dmem : wants.dmem ≡ true → IsThere l.port.dmem

-- the net with its port, or why there is none
abbrev pub IsNetted : Ordered → ℕ → Wants → Opts → Result Loaded LoadFault → Type 0
IsNetted ordered channels wants opts (Ok l) = IsNetOf ordered channels wants opts l
IsNetted ordered channels wants opts (Err (fault.Port f)) = port_refusal ordered.flat.decls channels wants ≡ Some f
IsNetted ordered channels wants opts (Err fault.Memory) = Unit {0}
IsNetted ordered channels wants opts (Err f) = ⊥

-- the same of a design that is to be light enough
abbrev pub IsWeighed : List ℕ → Ordered → ℕ → Wants → Opts → Result Loaded LoadFault → Type 0
IsWeighed factors ordered channels wants opts (Ok l) =
    (too_heavy (weight_of ordered.flat) 0 factors ≡ None) × IsNetOf ordered channels wants opts l
IsWeighed factors ordered channels wants opts (Err (fault.Heavy place product)) =
    too_heavy (weight_of ordered.flat) 0 factors ≡ Some (place, product)
IsWeighed factors ordered channels wants opts (Err (fault.Port f)) =
    (too_heavy (weight_of ordered.flat) 0 factors ≡ None)
    × (port_refusal ordered.flat.decls channels wants ≡ Some f)
IsWeighed factors ordered channels wants opts (Err fault.Memory) = Unit {0}
IsWeighed factors ordered channels wants opts (Err f) = ⊥

-- ---- all parts

-- what is answered is there; want of memory says nothing
abbrev pub Gives : Asked → Result Loaded LoadFault → Type 0
Gives a (Ok l) = IsLoadedFrom a l
Gives a (Err fault.Memory) = Unit {0}
Gives a (Err f) = IsRefused a f
