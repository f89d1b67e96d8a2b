-- Meaning: What the nodes of a channel show in a cycle (RISC-V Formal Interface).
use Rattle.std.specs.Prelude.{◌≡◌, ℕ, ◌+◌, ◌*◌, ◌==◌, Bool, true, false, List, [], ◌∷◌}
use Rattle.std.specs.Prelude.{Option, Some, None, length}
use Rattle.fv_bits.specs.Bits.{part}
use Rattle.rv_table.specs.declared.retire.Retire.{Retire}
use Rattle.wn_net.specs.declared.names.Names.{Names}
use Rattle.wn_net.specs.Value.{Given}
use Rattle.wn_net.specs.Net.{Netlist, value_at}
use Rattle.wn_net.specs.Changes.{Shows}
use Rattle.rvfi_port.specs.declared.field.Field.{Field}
use Rattle.rvfi_port.specs.declared.field.Field.TheVariants as f
use Rattle.rvfi_port.specs.declared.port.Channel.{Channel}
use Rattle.rvfi_port.specs.declared.port.Port.{Port}
use Rattle.rvfi_port.specs.declared.port.Wants.{Wants}
use Rattle.rvfi_port.specs.Fields.{field_width, channel_fields}
use Rattle.rvfi_port.specs.Outputs.{output_of, output_value}

-- the number of a channel's field in a cycle: its part of the output
abbrev pub field_value : Netlist → Given → Names → ℕ → Field → ℕ
field_value net g names channel field =
    part (channel * field_width field) (field_width field) (output_value net g (output_of names field))

-- the nodes of a channel, in the order of its fields
abbrev pub nodes_of : Channel → List ℕ
nodes_of c =
    c.valid ∷ c.order ∷ c.insn ∷ c.trap ∷ c.halt ∷ c.intr ∷ c.rs1_addr ∷ c.rs2_addr ∷ c.rs1_rdata ∷
    c.rs2_rdata ∷ c.rd_addr ∷ c.rd_wdata ∷ c.pc_rdata ∷ c.pc_wdata ∷ c.mem_addr ∷ c.mem_rmask ∷
    c.mem_wmask ∷ c.mem_rdata ∷ c.mem_wdata ∷ []

-- what retires in the channel in a cycle, if anything does
abbrev pub retire_at : Netlist → Given → Channel → Retire
retire_at net g c = record {
  order = value_at net g c.order;
  insn = value_at net g c.insn;
  trap = value_at net g c.trap == 1;
  halt = value_at net g c.halt == 1;
  intr = value_at net g c.intr == 1;
  rs1_addr = value_at net g c.rs1_addr;
  rs2_addr = value_at net g c.rs2_addr;
  rs1_rdata = value_at net g c.rs1_rdata;
  rs2_rdata = value_at net g c.rs2_rdata;
  rd_addr = value_at net g c.rd_addr;
  rd_wdata = value_at net g c.rd_wdata;
  pc_rdata = value_at net g c.pc_rdata;
  pc_wdata = value_at net g c.pc_wdata;
  mem_addr = value_at net g c.mem_addr;
  mem_rmask = value_at net g c.mem_rmask;
  mem_wmask = value_at net g c.mem_wmask;
  mem_rdata = value_at net g c.mem_rdata;
  mem_wdata = value_at net g c.mem_wdata;
}

abbrev pub retires : Netlist → Given → Channel → Bool
retires net g c = value_at net g c.valid == 1

-- one node for each of the fields, in their order, that shows the channel's part of the output
abbrev pub AreFieldNodes : Netlist → Netlist → Names → ℕ → List Field → List ℕ → Type 0
AreFieldNodes old new names channel [] [] = Unit {0}
AreFieldNodes old new names channel (field ∷ fields) (id ∷ ids) =
    Shows old new (field_width field) (λ g. field_value old g names channel field) id
    × AreFieldNodes old new names channel fields ids
AreFieldNodes old new names channel fields ids = ⊥

-- the nodes of a channel show its parts of the outputs
abbrev pub IsChannel : Netlist → Netlist → Names → ℕ → Channel → Type 0
IsChannel old new names channel c = AreFieldNodes old new names channel channel_fields (nodes_of c)

-- the channels from this one on
abbrev pub AreChannels : Netlist → Netlist → Names → ℕ → List Channel → Type 0
AreChannels old new names channel [] = Unit {0}
AreChannels old new names channel (c ∷ cs) =
    IsChannel old new names channel c × AreChannels old new names (channel + 1) cs

-- a node shows an output that is probed
abbrev pub IsProbe : Netlist → Netlist → Names → Field → ℕ → Type 0
IsProbe old new names field id =
    Shows old new (field_width field) (λ g. output_value old g (output_of names field)) id

-- the probe of data memory, exactly where it is wanted
abbrev pub IsDmem : Netlist → Netlist → Names → Bool → Option ℕ → Type 0
IsDmem old new names true (Some id) = IsProbe old new names f.DmemAddr id
IsDmem old new names false None = Unit {0}
IsDmem old new names wanted probe = ⊥

-- that of instruction memory: the address and the half word
abbrev pub IsImem : Netlist → Netlist → Names → Bool → Option (ℕ × ℕ) → Type 0
IsImem old new names true (Some p) =
    IsProbe old new names f.ImemAddr p.0 × IsProbe old new names f.ImemData p.1
IsImem old new names false None = Unit {0}
IsImem old new names wanted probe = ⊥

-- the channels that there are, channel 0 first, and the probes that are wanted
pub record IsPortOf (old new : Netlist) (names : Names) (channels : ℕ) (wants : Wants) (port : Port) : Type 0 where
  pub many : length port.channels ≡ channels
  pub each : AreChannels old new names 0 port.channels
  pub imem : IsImem old new names wants.imem port.imem
  pub dmem : IsDmem old new names wants.dmem port.dmem
