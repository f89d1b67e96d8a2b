-- Meaning: The nodes of a port, with their widths (RISC-V Formal Interface).
use Rattle.std.specs.Prelude.{ℕ, Option, Some, None}
use Rattle.std.specs.List.{AllByRecursion}
use Rattle.wn_net.specs.Net.{Netlist, IsNodeOf}
use Rattle.rvfi_port.specs.declared.port.Channel.{Channel}
use Rattle.rvfi_port.specs.declared.port.Port.{Port}

-- each node of the channel is there, with the width of its field
pub record AreChannelNodes (net : Netlist) (c : Channel) : Type 0 where
  pub valid : IsNodeOf net 1 c.valid
  pub order : IsNodeOf net 64 c.order
  pub insn : IsNodeOf net 32 c.insn
  pub trap : IsNodeOf net 1 c.trap
  pub halt : IsNodeOf net 1 c.halt
  pub intr : IsNodeOf net 1 c.intr
  pub rs1_addr : IsNodeOf net 5 c.rs1_addr
  pub rs2_addr : IsNodeOf net 5 c.rs2_addr
  pub rs1_rdata : IsNodeOf net 32 c.rs1_rdata
  pub rs2_rdata : IsNodeOf net 32 c.rs2_rdata
  pub rd_addr : IsNodeOf net 5 c.rd_addr
  pub rd_wdata : IsNodeOf net 32 c.rd_wdata
  pub pc_rdata : IsNodeOf net 32 c.pc_rdata
  pub pc_wdata : IsNodeOf net 32 c.pc_wdata
  pub mem_addr : IsNodeOf net 32 c.mem_addr
  pub mem_rmask : IsNodeOf net 4 c.mem_rmask
  pub mem_wmask : IsNodeOf net 4 c.mem_wmask
  pub mem_rdata : IsNodeOf net 32 c.mem_rdata
  pub mem_wdata : IsNodeOf net 32 c.mem_wdata

-- those of the probe of instruction memory, and of data memory, where there is one
abbrev pub AreImemNodes : Netlist → Option (ℕ × ℕ) → Type 0
AreImemNodes net None = Unit {0}
AreImemNodes net (Some p) = IsNodeOf net 32 p.0 × IsNodeOf net 16 p.1

abbrev pub IsDmemNode : Netlist → Option ℕ → Type 0
IsDmemNode net None = Unit {0}
IsDmemNode net (Some id) = IsNodeOf net 32 id

-- the nodes of all channels, and of the probes
pub record ArePortNodes (net : Netlist) (port : Port) : Type 0 where
  pub channels : AllByRecursion (AreChannelNodes net) port.channels
  pub imem : AreImemNodes net port.imem
  pub dmem : IsDmemNode net port.dmem
