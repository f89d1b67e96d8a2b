-- The nodes of an effect stay.
use Rattle.wn_net.specs.Net.{Netlist}
use Rattle.wn_net.specs.Changes.{AddsNodes}
use Rattle.wn_net.proofs.Laws.{node_on}
use Rattle.rv_rows.specs.declared.outcome.OutcomeNodes.{OutcomeNodes}
use Rattle.rv_rows.specs.Effects.{AreEffect}
use Rattle.rvfi_port.proofs.AddedNodes.{channel_on}
use Rattle.rv_circ.proofs.TestLemmas.{agreements}

pub are_effect_on : (old new : Netlist) (e : OutcomeNodes) → AddsNodes old new → AreEffect old e → AreEffect new e
are_effect_on old new e h own = record {
  rs1_addr = node_on old new 5 e.rs1_addr h own.rs1_addr;
  rs2_addr = node_on old new 5 e.rs2_addr h own.rs2_addr;
  rd_addr = node_on old new 5 e.rd_addr h own.rd_addr;
  rd_wdata = node_on old new 32 e.rd_wdata h own.rd_wdata;
  pc_wdata = node_on old new 32 e.pc_wdata h own.pc_wdata;
  mem_addr = node_on old new 32 e.mem_addr h own.mem_addr;
  rmask = node_on old new 4 e.rmask h own.rmask;
  wmask = node_on old new 4 e.wmask h own.wmask;
  wdata = node_on old new 32 e.wdata h own.wdata;
  trap = node_on old new 1 e.trap h own.trap;
}

pub ruleset nodes = (agreements, channel_on, are_effect_on)
