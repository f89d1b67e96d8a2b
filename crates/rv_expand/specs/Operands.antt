-- Between functions: What nodes show of the registers and the immediate of a word (rule of this project).
use Rattle.std.specs.Prelude.{◌≡◌}
use Rattle.rv_table.specs.declared.assemble.Operands.{Operands}
use Rattle.wn_net.specs.Value.{Given}
use Rattle.wn_net.specs.Given.{IsGiven}
use Rattle.wn_net.specs.Net.{Netlist, IsNodeOf, value_at}
use Rattle.rv_expand.specs.declared.operands.OperandNodes.{OperandNodes}

-- registers have five bits, and the immediate 32
pub record AreOperands (net : Netlist) (x : OperandNodes) : Type 0 where
  pub rd : IsNodeOf net 5 x.rd
  pub rs1 : IsNodeOf net 5 x.rs1
  pub rs2 : IsNodeOf net 5 x.rs2
  pub immediate : IsNodeOf net 32 x.immediate

-- the registers and the immediate that the nodes show in a cycle
abbrev pub operands_at : Netlist → Given → OperandNodes → Operands
operands_at net g x = record {
  rd = value_at net g x.rd;
  rs1 = value_at net g x.rs1;
  rs2 = value_at net g x.rs2;
  immediate = value_at net g x.immediate;
}

-- the nodes are there, and show these in each cycle of the old net
pub record ShowsOperands (old new : Netlist) (meaning : Given → Operands) (x : OperandNodes) : Type 0 where
  pub nodes : AreOperands new x
  pub value : (g : Given) → IsGiven old g → operands_at new g x ≡ meaning g
