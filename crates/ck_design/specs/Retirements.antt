-- Meaning: What the runs of a design show of a core, and which of them violate a check (RISC-V Formal Interface, in
-- this project's profile).
use Rattle.std.specs.Prelude.{◌≡◌, ℕ, zero, suc, ◌+◌, ◌-◌, ◌*◌, ◌==◌, Bool, false, if◌then◌else◌}
use Rattle.std.specs.Prelude.{List, [], ◌∷◌, ◌++◌, slice_index_or}
use Rattle.fv_bits.specs.Bits.{part}
use Rattle.rv_table.specs.declared.retire.Retire.{Retire}
use Rattle.rv_table.specs.declared.retire.Opts.{Opts}
use Rattle.vl_size.specs.Size.{Values}
use Rattle.vl_mean.specs.Parts.{Part}
use Rattle.vl_mean.specs.Runs.{IsAssumed, IsRun}
use Rattle.vl_mean.specs.Scopes.{no_values}
use Rattle.rvfi_port.specs.declared.field.Field.{Field}
use Rattle.rvfi_port.specs.declared.field.Field.TheVariants as f
use Rattle.rvfi_port.specs.declared.port.Wants.{Wants}
use Rattle.rvfi_port.specs.Fields.{field_name, field_width}
use Rattle.ck_cfg.specs.declared.check.Check.{Check}
use Rattle.ck_spec.specs.declared.retired.Retired.{Retired}
use Rattle.ck_spec.specs.declared.retired.Probe.{Probe}
use Rattle.ck_spec.specs.Properties.{property}

-- the number of a channel's field in a cycle: its part of the output
abbrev pub field_in : Values → ℕ → Field → ℕ
field_in v channel field = part (channel * field_width field) (field_width field) (v (field_name field))

-- what a channel retires in a cycle, if anything
abbrev pub retires_in : Values → ℕ → Bool
retires_in v channel = field_in v channel f.Valid == 1

abbrev pub retire_in : Values → ℕ → Retire
retire_in v channel = record {
  order = field_in v channel f.Order;
  insn = field_in v channel f.Insn;
  trap = field_in v channel f.Trap == 1;
  halt = field_in v channel f.Halt == 1;
  intr = field_in v channel f.Intr == 1;
  rs1_addr = field_in v channel f.Rs1Addr;
  rs2_addr = field_in v channel f.Rs2Addr;
  rs1_rdata = field_in v channel f.Rs1Rdata;
  rs2_rdata = field_in v channel f.Rs2Rdata;
  rd_addr = field_in v channel f.RdAddr;
  rd_wdata = field_in v channel f.RdWdata;
  pc_rdata = field_in v channel f.PcRdata;
  pc_wdata = field_in v channel f.PcWdata;
  mem_addr = field_in v channel f.MemAddr;
  mem_rmask = field_in v channel f.MemRmask;
  mem_wmask = field_in v channel f.MemWmask;
  mem_rdata = field_in v channel f.MemRdata;
  mem_wdata = field_in v channel f.MemWdata;
}

abbrev pub retired_by : Values → ℕ → ℕ → List Retired
retired_by v cycle channel =
    if retires_in v channel then record { cycle = cycle; channel = channel; retire = retire_in v channel } ∷ [] else []

-- what so many channels retire in a cycle, from one on upwards
abbrev pub retired_from : Values → ℕ → ℕ → ℕ → List Retired
retired_from v cycle channel zero = []
retired_from v cycle channel (suc count) = retired_by v cycle channel ++ retired_from v cycle (channel + 1) count

-- the values of all names in a cycle of a run
abbrev pub values_at : List Values → ℕ → Values
values_at run k = slice_index_or run k no_values

-- the retirements of so many cycles from the first one on, cycle by cycle and in each by channel
abbrev pub retirements : List Values → ℕ → ℕ → ℕ → List Retired
retirements run channels first zero = []
retirements run channels first (suc count) = retirements run channels first count
    ++ retired_from (values_at run (first + count)) (first + count) 0 channels

-- what a run is probed by in a cycle; 0 where it isn't
abbrev pub probe_in : Values → Wants → Probe
probe_in v wants = record {
  imem_addr = if wants.imem then v (field_name f.ImemAddr) else 0;
  imem_data = if wants.imem then v (field_name f.ImemData) else 0;
  dmem_addr = if wants.dmem then v (field_name f.DmemAddr) else 0;
}

-- the check has its property in the run, over the retirements from its first cycle to its last
abbrev pub holds_over : List Values → ℕ → Wants → Check → Opts → Bool
holds_over run channels wants check opts =
    property check (retirements run channels check.start (check.cycle - check.start + 1))
    (probe_in (values_at run check.cycle) wants) opts

-- a run of the design up to the check's cycle meets its assumptions and doesn't have the check's property
pub record IsViolating (ps : List Part) (channels : ℕ) (wants : Wants) (check : Check) (opts : Opts)
    (run : List Values) : Type 0 where
  pub is_run : IsRun ps check.cycle run
  pub assumed : IsAssumed ps run
  pub fails : holds_over run channels wants check opts ≡ false
