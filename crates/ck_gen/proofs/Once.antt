-- The monitor of a check that looks at one retirement alone.
use Rattle.std.specs.Prelude.{◌≡◌, refl, ℕ, ◌+◌, ◌-◌, ◌<◌, ◌≤◌, true}
use Rattle.std.specs.Prelude.{not, ◌&&◌, if◌then◌else◌, List, ◌∷◌, ◌++◌}
use Rattle.std.specs.Prelude.{length, Option, Some, None}
use Rattle.std.proofs.Common.{ap, sym, ◌∙◌, arith, subst}
use Rattle.fv_bits.specs.Bits.{bit}
use Rattle.rv_table.specs.declared.retire.Retire.{Retire}
use Rattle.rv_table.specs.declared.retire.Opts.{Opts}
use Rattle.rv_table.specs.declared.row.RowId.{RowId}
use Rattle.wn_net.specs.Value.{Given}
use Rattle.wn_net.specs.Net.{Netlist, IsNet, value_at}
use Rattle.wn_net.specs.Given.{IsGiven}
use Rattle.wn_net.specs.Changes.{AddsNodes, AddsRegs}
use Rattle.wn_net.proofs.Laws.{adds_on, adds_regs}
use Rattle.wn_run.specs.Runs.{cycle_at}
use Rattle.wn_run.proofs.Given.{cycles_given}
use Rattle.rvfi_port.specs.declared.port.Channel.{Channel}
use Rattle.rvfi_port.specs.declared.port.Port.{Port}
use Rattle.rvfi_port.specs.Channels.{retires, retire_at}
use Rattle.ck_cfg.specs.declared.check.Check.{Check}
use Rattle.ck_cfg.specs.declared.kind.CheckKind.{CheckKind}
use Rattle.ck_cfg.specs.declared.kind.CheckKind.TheVariants as kinds
use Rattle.ck_spec.specs.declared.retired.Probe.{Probe}
use Rattle.ck_spec.specs.Lists.{found_at, where_found}
use Rattle.ck_spec.specs.Properties.{holds_at, cycle_of, property}
use Rattle.ck_history.specs.Truths.{Tells, is_one}
use Rattle.ck_history.proofs.Laws.{told, one_on}
use Rattle.rvfi_port.specs.Ports.{AreChannelNodes, ArePortNodes, AreImemNodes}
use Rattle.ck_gen.specs.Retirements.{retirements, imem_addr_at, imem_data_at, probe_at}
use Rattle.ck_gen.proofs.Monitored.{IsAmong}
use Rattle.ck_gen.proofs.Property.{found_is}
use Rattle.rvfi_port.proofs.AddedRegs.{channels_on, retire_on}
use Rattle.ck_gen.specs.Monitors.{IsMonitor, IsMonitorOfEachCycle, LooksAtOne, holds_alone, probe_of, at_cycle}
use Rattle.ck_gen.proofs.Recalled.{given_back, among_nodes, unless_held}

imem_addr_on : (old new : Netlist) (g : Given) (imem : Option (ℕ × ℕ)) → AddsRegs old new → AreImemNodes old imem
    → imem_addr_at new g imem ≡ imem_addr_at old g imem
imem_addr_on old new g None adds own = refl
imem_addr_on old new g (Some p) adds own = adds.values g p.0 own.0.0

imem_data_on : (old new : Netlist) (g : Given) (imem : Option (ℕ × ℕ)) → AddsRegs old new → AreImemNodes old imem
    → imem_data_at new g imem ≡ imem_data_at old g imem
imem_data_on old new g None adds own = refl
imem_data_on old new g (Some p) adds own = adds.values g p.1 own.1.0

-- the property of what is retired in the check's cycle, whatever other cycles are looked at
module _ (net : Netlist) (run : ℕ → Given) (before behind : List Channel) (c : Channel) (check : Check)
    (own_channel : check.channel ≡ length before) (first count : ℕ) (probe : Probe) (opts : Opts)
    (low : first ≤ check.cycle) (high : check.cycle < first + count) where
  alone : (kind : CheckKind) → LooksAtOne kind
      → where_found (found_at check (cycle_of check kind) (retirements net run (before ++ c ∷ behind) first count))
      (λ r. holds_at check (retirements net run (before ++ c ∷ behind) first count) probe opts r kind)
      ≡ (if retires net (run check.cycle) c
      then holds_alone check.row opts probe (retire_at net (run check.cycle) c) kind else true)
  alone kinds.Insn one =
      found_is net run before behind c check own_channel check.cycle
      (λ r. holds_alone check.row opts probe r kinds.Insn) first count low high
  alone kinds.Ill one =
      found_is net run before behind c check own_channel check.cycle
      (λ r. holds_alone check.row opts probe r kinds.Ill) first count low high
  alone kinds.Imem one =
      found_is net run before behind c check own_channel check.cycle
      (λ r. holds_alone check.row opts probe r kinds.Imem) first count low high
  alone kinds.Reg one = absurd one
  alone kinds.PcFwd one = absurd one
  alone kinds.PcBwd one = absurd one
  alone kinds.Causal one = absurd one
  alone kinds.Unique one = absurd one
  alone kinds.Liveness one = absurd one
  alone kinds.Dmem one = absurd one

pub looks_once : (net : Netlist) (run : ℕ → Given) (all : List Channel) (c : Channel) (check : Check)
    (first count : ℕ) (probe : Probe) (opts : Opts)
    → IsAmong all check.channel c → LooksAtOne check.kind → first ≤ check.cycle → check.cycle < first + count
    → property check (retirements net run all first count) probe opts
    ≡ (if retires net (run check.cycle) c
    then holds_alone check.row opts probe (retire_at net (run check.cycle) c) check.kind else true)
looks_once net run all c check first count probe opts among one low high =
    let P : List Channel → Type 0 = λ xs. property check (retirements net run xs first count) probe opts
    ≡ (if retires net (run check.cycle) c
    then holds_alone check.row opts probe (retire_at net (run check.cycle) c) check.kind else true) in
    subst P among.all
    (alone net run among.before among.behind c check among.many first count probe opts low high check.kind one)

-- the probe of data memory doesn't count
no_dmem : (row : Option RowId) (opts : Opts) (kind : CheckKind) (p : Probe) (r : Retire)
    → holds_alone row opts (probe_of p.imem_addr p.imem_data) r kind ≡ holds_alone row opts p r kind
no_dmem row opts kinds.Insn p r = refl
no_dmem row opts kinds.Ill p r = refl
no_dmem row opts kinds.Reg p r = refl
no_dmem row opts kinds.PcFwd p r = refl
no_dmem row opts kinds.PcBwd p r = refl
no_dmem row opts kinds.Causal p r = refl
no_dmem row opts kinds.Unique p r = refl
no_dmem row opts kinds.Liveness p r = refl
no_dmem row opts kinds.Imem p r = refl
no_dmem row opts kinds.Dmem p r = refl

-- The nodes of such a monitor, net by net: whether the retirement holds, and whether it doesn't.
pub record IsOnce (old judged new : Netlist) (port : Port) (check : Check) (opts : Opts) (c : Channel)
    (held id : ℕ) : Type 0 where
  pub kind : LooksAtOne check.kind
  pub port_nodes : ArePortNodes old port
  pub among : IsAmong port.channels check.channel c
  pub order : check.start ≤ check.cycle
  pub judged_added : AddsNodes old judged
  pub judges : Tells old judged
      (λ g. holds_alone check.row opts (probe_of (imem_addr_at old g port.imem) (imem_data_at old g port.imem))
      (retire_at old g c) check.kind) held
  pub added : AddsNodes judged new
  pub tells : Tells judged new (λ g. is_one judged g c.valid && not (is_one judged g held)) id
  pub whole : IsNet new

module _ (old judged new : Netlist) (port : Port) (check : Check) (opts : Opts) (c : Channel) (held id : ℕ)
    (b : IsOnce old judged new port check opts c held id) where
  to_new : AddsRegs old new
  to_new = adds_regs old new (adds_on old judged new b.judged_added b.added)

  own : AreChannelNodes old c
  own = among_nodes old port.channels check.channel c b.among b.port_nodes.channels

  valid_there : AreChannelNodes judged c
  valid_there =
      among_nodes judged port.channels check.channel c b.among
      (channels_on old judged port.channels (adds_regs old judged b.judged_added) b.port_nodes.channels)

  value_is : (g : Given) → IsGiven new g
      → value_at new g id
      ≡ bit (not (if retires new g c
      then holds_alone check.row opts (probe_at new g port) (retire_at new g c) check.kind else true))
  value_is g given =
      let given1 = given_back judged new g b.added given in
      let given0 = given_back old judged g b.judged_added given1 in
      let valid : is_one judged g c.valid ≡ retires new g c =
      sym (one_on judged new g c.valid b.added valid_there.valid.0) in
      let held_is : is_one judged g held
      ≡ holds_alone check.row opts (probe_at new g port) (retire_at new g c) check.kind =
      told old judged _ held g b.judges given0
      ∙ (λ i. holds_alone check.row opts (probe_of (sym (imem_addr_on old new g port.imem to_new b.port_nodes.imem) i)
      (sym (imem_data_on old new g port.imem to_new b.port_nodes.imem) i)) (sym (retire_on old new g c to_new own) i)
      check.kind)
      ∙ no_dmem check.row opts check.kind (probe_at new g port) (retire_at new g c) in
      b.tells.value g given1
      ∙ (λ i. bit (valid i && not (held_is i)))
      ∙ unless_held (retires new g c) _

  pub once_fails : IsMonitor new port check opts id
  once_fails = λ inputs start run.
      let at : ℕ → Given = λ k. cycle_at new inputs start k in
      value_is (at check.cycle) (cycles_given new inputs start check.cycle b.whole run)
      ∙ ap (λ x. bit (not x))
      (sym (looks_once new at port.channels c check check.start (check.cycle - check.start + 1)
      (probe_at new (at check.cycle) port) opts b.among b.kind b.order (omega (arith, b.order))))

  pub each_fails : IsMonitorOfEachCycle new port check opts id
  each_fails = λ g k given.
      value_is g given
      ∙ ap (λ x. bit (not x))
      (sym (looks_once new (λ i. g) port.channels c (at_cycle check k) k 1 (probe_at new g port) opts b.among b.kind
      (omega arith) (omega arith)))

-- what stands past the last channel
abbrev pub no_channel : Channel
no_channel = record {
  valid = 0;
  order = 0;
  insn = 0;
  trap = 0;
  halt = 0;
  intr = 0;
  rs1_addr = 0;
  rs2_addr = 0;
  rs1_rdata = 0;
  rs2_rdata = 0;
  rd_addr = 0;
  rd_wdata = 0;
  pc_rdata = 0;
  pc_wdata = 0;
  mem_addr = 0;
  mem_rmask = 0;
  mem_wmask = 0;
  mem_rdata = 0;
  mem_wdata = 0;
}
