-- Meaning: What a monitor shows (rule of this project; the properties are those of checks).
use Rattle.std.specs.Prelude.{◌≡◌, ℕ, ◌≤◌, Bool, true, false, not, List, Option, Some, None}
use Rattle.fv_bits.specs.Bits.{bit}
use Rattle.rv_table.specs.declared.retire.Retire.{Retire}
use Rattle.rv_table.specs.declared.retire.Opts.{Opts}
use Rattle.rv_table.specs.declared.row.RowId.{RowId}
use Rattle.wn_net.specs.Value.{Given}
use Rattle.wn_net.specs.Net.{Netlist, IsNodeOf, value_at}
use Rattle.wn_net.specs.Given.{IsGiven}
use Rattle.wn_net.specs.declared.parts.State.{State}
use Rattle.wn_net.specs.Changes.{AddsNodes}
use Rattle.wn_run.specs.Runs.{cycle_at, IsRun}
use Rattle.rvfi_port.specs.declared.port.Port.{Port}
use Rattle.ck_cfg.specs.declared.check.Check.{Check}
use Rattle.ck_cfg.specs.declared.kind.CheckKind.{CheckKind}
use Rattle.ck_cfg.specs.declared.kind.CheckKind.TheVariants as kinds
use Rattle.ck_spec.specs.declared.retired.Probe.{Probe}
use Rattle.ck_spec.specs.Properties.{property, does_as_row, traps_zeros, has_probed_halves}
use Rattle.ck_history.specs.Truths.{is_one}
use Rattle.ck_history.specs.Entries.{Entry, Show}
use Rattle.ck_history.specs.Lines.{AddsKnown}
use Rattle.ck_gen.specs.Retirements.{retirements, retirements_of, probe_at}

-- the check has its property in the run that has these numbers in each cycle
abbrev pub holds_in : Netlist → (ℕ → Given) → Port → Check → Opts → Bool
holds_in net run port check opts =
    property check (retirements_of net run port check) (probe_at net (run check.cycle) port) opts

-- In the check's cycle of each run of the net the node is 1 exactly where the check doesn't have its property.
abbrev pub IsMonitor : Netlist → Port → Check → Opts → ℕ → Type 0
IsMonitor net port check opts id =
    (inputs : ℕ → List ℕ) (start : State) → IsRun net inputs start
    → value_at net (cycle_at net inputs start check.cycle) id
    ≡ bit (not (holds_in net (cycle_at net inputs start) port check opts))

-- a check of this kind looks at one cycle alone
abbrev pub is_of_one_cycle : CheckKind → Bool
is_of_one_cycle kinds.Insn = true
is_of_one_cycle kinds.Ill = true
is_of_one_cycle kinds.Imem = true
is_of_one_cycle other = false

-- the check, of another cycle
abbrev pub at_cycle : Check → ℕ → Check
at_cycle check k = record check { cycle = k }

-- Under all numbers of the net the node is 1 exactly where the property fails, read over the retirements of this one
-- cycle, whatever its number.
abbrev pub IsMonitorOfEachCycle : Netlist → Port → Check → Opts → ℕ → Type 0
IsMonitorOfEachCycle net port check opts id =
    (g : Given) (k : ℕ) → IsGiven net g
    → value_at net g id
    ≡ bit (not (property (at_cycle check k) (retirements net (λ i. g) port.channels k 1) (probe_at net g port) opts))

-- a check of one cycle needs no registers
abbrev pub NeedsNoRegisters : Bool → Netlist → Netlist → Port → Check → Opts → ℕ → Type 0
NeedsNoRegisters true old new port check opts id = AddsNodes old new × IsMonitorOfEachCycle new port check opts id
NeedsNoRegisters false old new port check opts id = Unit {0}

-- it is about one retirement alone, and this is what it asks of it
abbrev pub LooksAtOne : CheckKind → Type 0
LooksAtOne kinds.Insn = Unit {0}
LooksAtOne kinds.Ill = Unit {0}
LooksAtOne kinds.Imem = Unit {0}
LooksAtOne other = ⊥

abbrev pub holds_alone : Option RowId → Opts → Probe → Retire → CheckKind → Bool
holds_alone row opts probe r kinds.Insn = does_as_row row opts r
holds_alone row opts probe r kinds.Ill = traps_zeros r
holds_alone row opts probe r kinds.Imem = has_probed_halves probe r
holds_alone row opts probe r other = true

-- there is a probe
abbrev pub IsThere : {A : Type 0} → Option A → Type 0
IsThere None = ⊥
IsThere (Some x) = Unit {0}

-- the port has the probe that a check of this kind asks for
abbrev pub HasProbe : Port → CheckKind → Type 0
HasProbe port kinds.Imem = IsThere port.imem
HasProbe port kinds.Dmem = IsThere port.dmem
HasProbe port other = Unit {0}

-- Over the words of entries, the last one first, the node says whether this is so.
pub record TellsOver (old new : Netlist) (words : List ℕ) (meaning : Given → List Entry → Bool) (id : ℕ)
    : Type 0 where
  pub node : IsNodeOf new 1 id
  pub value : (g : Given) (es : List Entry) → IsGiven old g → Show old g words es → is_one new g id ≡ meaning g es

-- a probe of instruction memory alone
abbrev pub probe_of : ℕ → ℕ → Probe
probe_of address half = record { imem_addr = address; imem_data = half; dmem_addr = 0 }

-- nodes, and at most 1,000 registers that begin with known numbers, are added
pub record AddsFew (old new : Netlist) : Type 0 where
  pub registers : ℕ
  pub few : registers ≤ 1000
  pub known : AddsKnown old new registers
