-- Instructions and effects that were there stay.
use Rattle.std.specs.Prelude.{◌≡◌, ◌==◌}
use Rattle.wn_net.specs.Value.{Given}
use Rattle.wn_net.specs.Net.{Netlist}
use Rattle.wn_net.specs.Changes.{AddsNodes}
use Rattle.wn_net.proofs.Laws.{node_on, value_on, additions}
use Rattle.rv_words.specs.declared.step.StepNodes.{StepNodes}
use Rattle.rv_words.specs.Nodes.{AreStep, step_at}
use Rattle.rv_words.proofs.BitLemmas.{set_is}
use Rattle.rv_rows.specs.declared.outcome.OutcomeNodes.{OutcomeNodes}
use Rattle.rv_rows.specs.Effects.{AreEffect, effect_at}

pub are_step_on : (old new : Netlist) (s : StepNodes) → AddsNodes old new → AreStep old s → AreStep new s
are_step_on old new s h own = record {
  word = node_on old new 32 s.word h own.word;
  rs1_addr = node_on old new 5 s.rs1_addr h own.rs1_addr;
  rs2_addr = node_on old new 5 s.rs2_addr h own.rs2_addr;
  rd_addr = node_on old new 5 s.rd_addr h own.rd_addr;
  s1 = node_on old new 32 s.s1 h own.s1;
  s2 = node_on old new 32 s.s2 h own.s2;
  pc = node_on old new 32 s.pc h own.pc;
  mem_rdata = node_on old new 32 s.mem_rdata h own.mem_rdata;
}

pub step_on : (old new : Netlist) (g : Given) (s : StepNodes) → AddsNodes old new → AreStep old s
    → step_at new g s ≡ step_at old g s
step_on old new g s h own = λ i. record {
  word = value_on old new g s.word h own.word.0 i;
  length = s.length;
  rs1_addr = value_on old new g s.rs1_addr h own.rs1_addr.0 i;
  rs2_addr = value_on old new g s.rs2_addr h own.rs2_addr.0 i;
  rd_addr = value_on old new g s.rd_addr h own.rd_addr.0 i;
  s1 = value_on old new g s.s1 h own.s1.0 i;
  s2 = value_on old new g s.s2 h own.s2.0 i;
  pc = value_on old new g s.pc h own.pc.0 i;
  mem_rdata = value_on old new g s.mem_rdata h own.mem_rdata.0 i;
  opts = s.opts;
}

pub effect_on : (old new : Netlist) (g : Given) (e : OutcomeNodes) → AddsNodes old new → AreEffect old e
    → effect_at new g e ≡ effect_at old g e
effect_on old new g e h own = λ i. record {
  rs1_addr = value_on old new g e.rs1_addr h own.rs1_addr.0 i;
  rs2_addr = value_on old new g e.rs2_addr h own.rs2_addr.0 i;
  rd_addr = value_on old new g e.rd_addr h own.rd_addr.0 i;
  rd_wdata = value_on old new g e.rd_wdata h own.rd_wdata.0 i;
  pc_wdata = value_on old new g e.pc_wdata h own.pc_wdata.0 i;
  mem_addr = value_on old new g e.mem_addr h own.mem_addr.0 i;
  rmask = value_on old new g e.rmask h own.rmask.0 i;
  wmask = value_on old new g e.wmask h own.wmask.0 i;
  wdata = value_on old new g e.wdata h own.wdata.0 i;
  trap = value_on old new g e.trap h own.trap.0 i == 1;
}

pub ruleset steps = (additions, are_step_on, step_on, set_is)
