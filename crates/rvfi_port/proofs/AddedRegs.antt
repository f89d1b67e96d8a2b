-- A channel behind more nodes and registers: its nodes are there, and it shows the same retirement.
use Rattle.std.specs.Prelude.{◌≡◌, ◌==◌, List, [], ◌∷◌}
use Rattle.std.specs.List.{AllByRecursion}
use Rattle.wn_net.specs.Value.{Given}
use Rattle.wn_net.specs.Net.{Netlist}
use Rattle.wn_net.specs.Changes.{AddsRegs}
use Rattle.wn_net.proofs.Laws.{regs_node_on}
use Rattle.rvfi_port.specs.declared.port.Channel.{Channel}
use Rattle.rvfi_port.specs.Channels.{retire_at}
use Rattle.rvfi_port.specs.Ports.{AreChannelNodes}

-- behind more nodes and registers a channel is as it was
pub channel_nodes_on : (old new : Netlist) (c : Channel) → AddsRegs old new → AreChannelNodes old c
    → AreChannelNodes new c
channel_nodes_on old new c adds own = record {
  valid = regs_node_on old new 1 c.valid adds own.valid;
  order = regs_node_on old new 64 c.order adds own.order;
  insn = regs_node_on old new 32 c.insn adds own.insn;
  trap = regs_node_on old new 1 c.trap adds own.trap;
  halt = regs_node_on old new 1 c.halt adds own.halt;
  intr = regs_node_on old new 1 c.intr adds own.intr;
  rs1_addr = regs_node_on old new 5 c.rs1_addr adds own.rs1_addr;
  rs2_addr = regs_node_on old new 5 c.rs2_addr adds own.rs2_addr;
  rs1_rdata = regs_node_on old new 32 c.rs1_rdata adds own.rs1_rdata;
  rs2_rdata = regs_node_on old new 32 c.rs2_rdata adds own.rs2_rdata;
  rd_addr = regs_node_on old new 5 c.rd_addr adds own.rd_addr;
  rd_wdata = regs_node_on old new 32 c.rd_wdata adds own.rd_wdata;
  pc_rdata = regs_node_on old new 32 c.pc_rdata adds own.pc_rdata;
  pc_wdata = regs_node_on old new 32 c.pc_wdata adds own.pc_wdata;
  mem_addr = regs_node_on old new 32 c.mem_addr adds own.mem_addr;
  mem_rmask = regs_node_on old new 4 c.mem_rmask adds own.mem_rmask;
  mem_wmask = regs_node_on old new 4 c.mem_wmask adds own.mem_wmask;
  mem_rdata = regs_node_on old new 32 c.mem_rdata adds own.mem_rdata;
  mem_wdata = regs_node_on old new 32 c.mem_wdata adds own.mem_wdata;
}

pub channels_on : (old new : Netlist) (cs : List Channel) → AddsRegs old new
    → AllByRecursion (AreChannelNodes old) cs → AllByRecursion (AreChannelNodes new) cs
channels_on old new [] adds own = tt
channels_on old new (c ∷ cs) adds own = (channel_nodes_on old new c adds own.0, channels_on old new cs adds own.1)

pub retire_on : (old new : Netlist) (g : Given) (c : Channel) → AddsRegs old new → AreChannelNodes old c
    → retire_at new g c ≡ retire_at old g c
retire_on old new g c adds own = λ i. record {
  order = adds.values g c.order own.order.0 i;
  insn = adds.values g c.insn own.insn.0 i;
  trap = adds.values g c.trap own.trap.0 i == 1;
  halt = adds.values g c.halt own.halt.0 i == 1;
  intr = adds.values g c.intr own.intr.0 i == 1;
  rs1_addr = adds.values g c.rs1_addr own.rs1_addr.0 i;
  rs2_addr = adds.values g c.rs2_addr own.rs2_addr.0 i;
  rs1_rdata = adds.values g c.rs1_rdata own.rs1_rdata.0 i;
  rs2_rdata = adds.values g c.rs2_rdata own.rs2_rdata.0 i;
  rd_addr = adds.values g c.rd_addr own.rd_addr.0 i;
  rd_wdata = adds.values g c.rd_wdata own.rd_wdata.0 i;
  pc_rdata = adds.values g c.pc_rdata own.pc_rdata.0 i;
  pc_wdata = adds.values g c.pc_wdata own.pc_wdata.0 i;
  mem_addr = adds.values g c.mem_addr own.mem_addr.0 i;
  mem_rmask = adds.values g c.mem_rmask own.mem_rmask.0 i;
  mem_wmask = adds.values g c.mem_wmask own.mem_wmask.0 i;
  mem_rdata = adds.values g c.mem_rdata own.mem_rdata.0 i;
  mem_wdata = adds.values g c.mem_wdata own.mem_wdata.0 i;
}
