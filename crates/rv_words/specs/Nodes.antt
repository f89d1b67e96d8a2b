-- Between functions: Instructions and their effects as nodes: what the nodes show in a cycle (rule of this project).
use Rattle.std.specs.Prelude.{◌≡◌, ℕ, ◌==◌}
use Rattle.rv_table.specs.declared.step.Step.{Step}
use Rattle.wn_net.specs.Value.{Given}
use Rattle.wn_net.specs.Net.{Netlist, IsNodeOf, value_at}
use Rattle.rv_words.specs.declared.step.StepNodes.{StepNodes}

-- each node has its width: an address of a register five bits, and the others 32
pub record AreStep (net : Netlist) (s : StepNodes) : Type 0 where
  pub word : IsNodeOf net 32 s.word
  pub rs1_addr : IsNodeOf net 5 s.rs1_addr
  pub rs2_addr : IsNodeOf net 5 s.rs2_addr
  pub rd_addr : IsNodeOf net 5 s.rd_addr
  pub s1 : IsNodeOf net 32 s.s1
  pub s2 : IsNodeOf net 32 s.s2
  pub pc : IsNodeOf net 32 s.pc
  pub mem_rdata : IsNodeOf net 32 s.mem_rdata

-- the instruction that the nodes show in a cycle
abbrev pub step_at : Netlist → Given → StepNodes → Step
step_at net g s = record {
  word = value_at net g s.word;
  length = s.length;
  rs1_addr = value_at net g s.rs1_addr;
  rs2_addr = value_at net g s.rs2_addr;
  rd_addr = value_at net g s.rd_addr;
  s1 = value_at net g s.s1;
  s2 = value_at net g s.s2;
  pc = value_at net g s.pc;
  mem_rdata = value_at net g s.mem_rdata;
  opts = s.opts;
}
