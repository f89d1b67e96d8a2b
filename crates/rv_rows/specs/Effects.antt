-- Between functions: What nodes show of an effect in a cycle (rule of this project).
use Rattle.std.specs.Prelude.{◌≡◌, ℕ, ◌==◌, Bool, if◌then◌else◌}
use Rattle.rv_table.specs.declared.retire.Effect.{Effect}
use Rattle.rv_table.specs.declared.step.Step.{Step}
use Rattle.rv_table.specs.Effect.{is_misaligned_target}
use Rattle.wn_net.specs.Value.{Given}
use Rattle.wn_net.specs.Given.{IsGiven}
use Rattle.wn_net.specs.Net.{Netlist, IsNodeOf, value_at}
use Rattle.wn_net.specs.Changes.{Shows}
use Rattle.rv_rows.specs.declared.outcome.OutcomeNodes.{OutcomeNodes}
use Rattle.rv_rows.specs.declared.outcome.Zeros.{Zeros}

-- each node has its width: an address of a register five bits, a mask four, the trap one, and the others 32
pub record AreEffect (net : Netlist) (e : OutcomeNodes) : Type 0 where
  pub rs1_addr : IsNodeOf net 5 e.rs1_addr
  pub rs2_addr : IsNodeOf net 5 e.rs2_addr
  pub rd_addr : IsNodeOf net 5 e.rd_addr
  pub rd_wdata : IsNodeOf net 32 e.rd_wdata
  pub pc_wdata : IsNodeOf net 32 e.pc_wdata
  pub mem_addr : IsNodeOf net 32 e.mem_addr
  pub rmask : IsNodeOf net 4 e.rmask
  pub wmask : IsNodeOf net 4 e.wmask
  pub wdata : IsNodeOf net 32 e.wdata
  pub trap : IsNodeOf net 1 e.trap

-- the effect that the nodes show in a cycle
abbrev pub effect_at : Netlist → Given → OutcomeNodes → Effect
effect_at net g e = record {
  rs1_addr = value_at net g e.rs1_addr;
  rs2_addr = value_at net g e.rs2_addr;
  rd_addr = value_at net g e.rd_addr;
  rd_wdata = value_at net g e.rd_wdata;
  pc_wdata = value_at net g e.pc_wdata;
  mem_addr = value_at net g e.mem_addr;
  rmask = value_at net g e.rmask;
  wmask = value_at net g e.wmask;
  wdata = value_at net g e.wdata;
  trap = value_at net g e.trap == 1;
}

-- the nodes are there, and have this effect in each cycle of the old net
pub record ShowsEffect (old new : Netlist) (meaning : Given → Effect) (e : OutcomeNodes) : Type 0 where
  pub nodes : AreEffect new e
  pub value : (g : Given) → IsGiven old g → effect_at new g e ≡ meaning g

-- a word, a mask and a bit that are 0
pub record ShowZeros (old new : Netlist) (z : Zeros) : Type 0 where
  pub word : Shows old new 32 (λ g. 0) z.word
  pub mask : Shows old new 4 (λ g. 0) z.mask
  pub bit : Shows old new 1 (λ g. 0) z.bit

-- a branch as a choice of two fields: where it is taken, its target, which may trap
abbrev pub goes_where : Step → Bool → ℕ → Effect → Effect
goes_where x taken target e = record e {
  pc_wdata = if taken then target else e.pc_wdata;
  trap = if taken then is_misaligned_target x target else e.trap;
}
