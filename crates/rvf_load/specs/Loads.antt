-- Meaning: What comes of texts: the net of their design with its port, or the first part that refuses them. Rules of
-- this project.
use Rattle.std.specs.Prelude.{◌≡◌, ℕ, ◌+◌, ◌*◌, ◌-◌, ◌^◌, min, nat_lt, Bool, true, if◌then◌else◌, is_some}
use Rattle.std.specs.Prelude.{List, [], ◌∷◌, Option, Some, None, Result, Ok, Err, codes}
use Rattle.rv_table.specs.declared.retire.Opts.{Opts}
use Rattle.vl_tree.specs.declared.source.Module.{Module}
use Rattle.vl_prep.specs.Macros.{Held}
use Rattle.vl_mean.specs.Parts.{Part, design}
use Rattle.vl_mean.specs.FlatParts.{flat_parts}
use Rattle.vl_mean.specs.declared.flat.Flat.{Flat}
use Rattle.vl_mean_flat.specs.SameMaps.{AreSameMaps}
use Rattle.vl_mean_flat.specs.DriverPlaces.{driver_places, places_of}
use Rattle.vl_elab_draft.specs.Drawn.{IsDrawn}
use Rattle.vl_elab_spec.specs.Refused as elab
use Rattle.vl_elab_spec.specs.declared.elab_fault.ElabFault.{ElabFault}
use Rattle.vl_flow_spec.specs.Refusals.{HasNoRefusal}
use Rattle.vl_flow_spec.specs.Weight.{design_weight}
use Rattle.vl_flow.specs.Faults.{IsFault}
use Rattle.vl_flow.specs.declared.fault.FlowFault.{FlowFault}
use Rattle.vl_flow.specs.declared.fault.FlowFault.TheVariants as flow
use Rattle.vl_lower_cell_laws.specs.Few.{AreFew}
use Rattle.rvfi_port.specs.declared.fault.PortFault.{PortFault}
use Rattle.rvfi_port.specs.declared.port.Wants.{Wants}
use Rattle.ck_design.specs.Loaded.{IsLoaded}
use Rattle.ck_gen.specs.Monitors.{IsThere}
use Rattle.ck_design.specs.Traces.{HaveOwnNames}
use Rattle.vl_text.specs.SourceText.{Comes, Reading}
use Rattle.vl_text.specs.Texts.{Text}
use Rattle.vl_text.specs.declared.fault.TextFault.{TextFault}
use Rattle.vl_text.specs.declared.macros.Core.{Core}
use Rattle.rvf_load.specs.Ports.{port_refusal}
use Rattle.rvf_load.specs.Readings.{IsReadingOf}
use Rattle.rvf_load.specs.declared.asked.Probes.{Probes}
use Rattle.rvf_load.specs.declared.loaded.Loaded.{Loaded}
use Rattle.rvf_load.specs.declared.fault.LoadFault.{LoadFault}
use Rattle.rvf_load.specs.declared.fault.LoadFault.TheVariants as fault

-- the top module of each design
abbrev pub top : List ℕ
top = codes "rvfi_wrapper"

-- What is asked of texts: the core whose macros are predefined, the texts, the lines of assumptions, how many channels
-- retire instructions, what is probed, and by which numbers the design's weight is multiplied.
pub record Asked : Type 0 where
  pub core : Core
  pub texts : List Text
  pub lines : List Text
  pub channels : ℕ
  pub probes : Probes
  pub factors : List ℕ

-- ---- options: macros that are defined behind the texts

abbrev pub is_aligned : Held → Bool
is_aligned macros = is_some (macros (codes "RISCV_FORMAL_ALIGNED_MEM"))

abbrev pub opts_of : Core → Held → Opts
opts_of core macros =
    record { aligned = is_aligned macros; altops = is_some (macros (codes "RISCV_FORMAL_ALTOPS")); c = core.compressed }

abbrev pub wants_of : Probes → Held → Wants
wants_of probes macros = record { imem = probes.imem; dmem = probes.dmem; aligned = is_aligned macros }

-- ---- from the texts to an ordered design

-- the texts have this tree, and these macros are defined behind them
abbrev pub Reads : Asked → Reading → Type 0
Reads a r = IsReadingOf a.core a.texts a.lines r

-- the parts of the design of modules
abbrev pub design_of : List Module → List Part
design_of modules = design modules top

-- The design isn't refused, and without hierarchy it is this one, with the same maps. Modules have at most one such
-- list of declarations, of drivers, each at its place, and of values at first.
pub record IsFlat (modules : List Module) (flat : Flat) : Type 0 where
  pub unrefused : elab.refusal modules top ≡ None
  pub drawn : IsDrawn (design_of modules) flat
  pub placed : places_of flat.drivers ≡ driver_places modules top
  pub same : AreSameMaps (design_of modules) (flat_parts flat)

-- the texts have a design, and it is this one without hierarchy
pub record Writes (a : Asked) (r : Reading) (flat : Flat) : Type 0 where
  pub reads : Reads a r
  pub is_flat : IsFlat r.tree.modules flat

abbrev pub weight_of : Flat → ℕ
weight_of flat = design_weight flat.decls flat.drivers

-- the first number by which the weight comes above 20,000,000: its place, counted on from the given one, and the
-- product
abbrev pub too_heavy : ℕ → ℕ → List ℕ → Option (ℕ × ℕ)
too_heavy weight place [] = None
too_heavy weight place (f ∷ fs) =
    if nat_lt 20000000 (weight * f) then Some (place, min (weight * f) (2 ^ 64 - 1))
    else too_heavy weight (place + 1) fs

-- ---- what is loaded

-- The net, with its names and its port, is that of the design that the texts write, whose outputs aren't refused; its
-- weight and its options are theirs. It is small enough for frames, and its names differ.
pub record IsLoadedFrom (a : Asked) (l : Loaded) : Type 0 where
  pub reading : Reading
  pub flat : Flat
  pub writes : Writes a reading flat
  pub ordered : HasNoRefusal flat.decls flat.drivers
  pub light : too_heavy (weight_of flat) 0 a.factors ≡ None
  pub loaded : IsLoaded (flat_parts flat) l.net l.names a.channels (wants_of a.probes reading.macros) l.port
  pub bound : port_refusal flat.decls a.channels (wants_of a.probes reading.macros) ≡ None
  pub few : AreFew l.net
  pub own : HaveOwnNames (flat_parts flat)
  pub options : l.opts ≡ opts_of a.core reading.macros
  pub weighed : l.weight ≡ weight_of flat
  -- the outputs that are probed have their nodes
  pub imem : a.probes.imem ≡ true → IsThere l.port.imem
  pub dmem : a.probes.dmem ≡ true → IsThere l.port.dmem
  -- the texts have no other reading
  pub one : (other : Reading) → Reads a other → other ≡ reading

-- ---- why nothing is loaded: the first part that refuses

-- a part that makes the tree refuses the texts
abbrev pub IsUnread : Asked → TextFault → Type 0
IsUnread a f = Comes a.core a.texts a.lines (Err f)

-- the tree writes no design
pub record IsNoDesign (a : Asked) (f : ElabFault) : Type 0 where
  pub reading : Reading
  pub reads : Reads a reading
  pub refused : elab.refusal reading.tree.modules top ≡ Some f

-- the drivers have no order
pub record IsUnordered (a : Asked) (f : FlowFault) : Type 0 where
  pub reading : Reading
  pub flat : Flat
  pub writes : Writes a reading flat
  pub refused : IsFault flat.decls flat.drivers f

-- the design is too heavy for the number at this place, by this product
pub record IsTooHeavy (a : Asked) (place product : ℕ) : Type 0 where
  pub reading : Reading
  pub flat : Flat
  pub writes : Writes a reading flat
  pub ordered : HasNoRefusal flat.decls flat.drivers
  pub heavy : too_heavy (weight_of flat) 0 a.factors ≡ Some (place, product)

-- its declared outputs make no port
pub record HasNoPort (a : Asked) (f : PortFault) : Type 0 where
  pub reading : Reading
  pub flat : Flat
  pub writes : Writes a reading flat
  pub ordered : HasNoRefusal flat.decls flat.drivers
  pub light : too_heavy (weight_of flat) 0 a.factors ≡ None
  pub refused : port_refusal flat.decls a.channels (wants_of a.probes reading.macros) ≡ Some f

abbrev pub IsRefused : Asked → LoadFault → Type 0
IsRefused a (fault.Text f) = IsUnread a f
IsRefused a (fault.Elab f) = IsNoDesign a f
IsRefused a (fault.Flow f) = IsUnordered a f
IsRefused a (fault.Heavy place product) = IsTooHeavy a place product
IsRefused a (fault.Port f) = HasNoPort a f
IsRefused a fault.Memory = ⊥

-- ---- what an answer says, both ways

-- two refusals of one design's drivers: of several loops any one
abbrev pub IsSameFlow : FlowFault → FlowFault → Type 0
IsSameFlow (flow.Loop ps) (flow.Loop qs) = Unit {0}
IsSameFlow f g = g ≡ f

abbrev pub IsSame : LoadFault → LoadFault → Type 0
IsSame (fault.Flow f) (fault.Flow g) = IsSameFlow f g
IsSame f g = g ≡ f

abbrev pub NoneRefuses : Asked → Type 0
NoneRefuses a = (f : LoadFault) → IsRefused a f → ⊥

-- the refusal is there, no other one is, and nothing is loaded
pub record IsTheRefusal (a : Asked) (f : LoadFault) : Type 0 where
  pub is : IsRefused a f
  pub only : (g : LoadFault) → IsRefused a g → IsSame f g
  pub none : (l : Loaded) → IsLoadedFrom a l → ⊥

-- the answer is what is there; want of memory says nothing
abbrev pub Answers : Asked → Result Loaded LoadFault → Type 0
Answers a (Ok l) = IsLoadedFrom a l × NoneRefuses a
Answers a (Err fault.Memory) = Unit {0}
Answers a (Err f) = IsTheRefusal a f
