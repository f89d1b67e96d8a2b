-- Between functions: The nodes of a circuit that show an effect (rule of this project).
use Rattle.rv_circ.specs.declared.effect.EffectNodes.{EffectNodes}
use Rattle.rv_rows.specs.declared.outcome.OutcomeNodes.{OutcomeNodes}

-- those beside the hit
abbrev pub outcome_of : EffectNodes → OutcomeNodes
outcome_of e = record {
  rs1_addr = e.rs1_addr;
  rs2_addr = e.rs2_addr;
  rd_addr = e.rd_addr;
  rd_wdata = e.rd_wdata;
  pc_wdata = e.pc_wdata;
  mem_addr = e.mem_addr;
  rmask = e.rmask;
  wmask = e.wmask;
  wdata = e.wdata;
  trap = e.trap;
}
