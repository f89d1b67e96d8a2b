-- Between functions: The widths of the nodes that a channel is made of (RISC-V Formal Interface).
use Rattle.wn_net.specs.Net.{Netlist, IsNodeOf}
use Rattle.channel_answers.specs.declared.channel.Flags.{Flags}
use Rattle.channel_answers.specs.declared.channel.Numbers.{Numbers}
use Rattle.channel_answers.specs.declared.channel.Sources.{Sources}
use Rattle.channel_answers.specs.declared.channel.Results.{Results}

pub record AreFlags (net : Netlist) (f : Flags) : Type 0 where
  pub valid : IsNodeOf net 1 f.valid
  pub order : IsNodeOf net 64 f.order
  pub trap : IsNodeOf net 1 f.trap
  pub halt : IsNodeOf net 1 f.halt
  pub intr : IsNodeOf net 1 f.intr

pub record AreNumbers (net : Netlist) (n : Numbers) : Type 0 where
  pub rs1_addr : IsNodeOf net 5 n.rs1_addr
  pub rs2_addr : IsNodeOf net 5 n.rs2_addr
  pub rd_addr : IsNodeOf net 5 n.rd_addr
  pub mem_rmask : IsNodeOf net 4 n.mem_rmask
  pub mem_wmask : IsNodeOf net 4 n.mem_wmask

pub record AreSources (net : Netlist) (s : Sources) : Type 0 where
  pub insn : IsNodeOf net 32 s.insn
  pub rs1_rdata : IsNodeOf net 32 s.rs1_rdata
  pub rs2_rdata : IsNodeOf net 32 s.rs2_rdata
  pub pc_rdata : IsNodeOf net 32 s.pc_rdata
  pub mem_rdata : IsNodeOf net 32 s.mem_rdata

pub record AreResults (net : Netlist) (r : Results) : Type 0 where
  pub rd_wdata : IsNodeOf net 32 r.rd_wdata
  pub pc_wdata : IsNodeOf net 32 r.pc_wdata
  pub mem_addr : IsNodeOf net 32 r.mem_addr
  pub mem_wdata : IsNodeOf net 32 r.mem_wdata
