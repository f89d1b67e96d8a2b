-- The monitor of a check that looks back.
use Rattle.std.specs.Prelude.{◌≡◌, ℕ, suc, ◌+◌, ◌-◌, not}
use Rattle.std.specs.Prelude.{◌&&◌, true, if◌then◌else◌, List, length}
use Rattle.std.proofs.Common.{ap, sym, ◌∙◌, arith}
use Rattle.fv_bits.specs.Bits.{bit}
use Rattle.rv_table.specs.declared.retire.Opts.{Opts}
use Rattle.wn_net.specs.declared.parts.State.{State}
use Rattle.wn_net.specs.Value.{Given}
use Rattle.wn_net.specs.Net.{Netlist, IsNode, value_at}
use Rattle.wn_net.specs.Changes.{AddsNodes, AddsRegs}
use Rattle.wn_net.proofs.Laws.{adds_regs, regs_on}
use Rattle.wn_run.specs.Runs.{cycle_at, IsRun}
use Rattle.rvfi_port.specs.declared.port.Channel.{Channel}
use Rattle.rvfi_port.specs.declared.port.Port.{Port}
use Rattle.rvfi_port.specs.Channels.{retires, retire_at}
use Rattle.ck_cfg.specs.declared.check.Check.{Check}
use Rattle.ck_spec.specs.Properties.{property}
use Rattle.ck_history.specs.Truths.{Tells, is_one}
use Rattle.ck_history.proofs.Laws.{one_on}
use Rattle.ck_history.specs.Entries.{Entry}
use Rattle.ck_history.specs.Lines.{past}
use Rattle.ck_gen.proofs.EarlierWords.{earlier_nodes, show_earlier}
use Rattle.rvfi_port.specs.Ports.{AreChannelNodes}
use Rattle.ck_gen.specs.Retirements.{retirements, dmem_addr_at, probe_at}
use Rattle.ck_gen.specs.Around.{earlier_of}
use Rattle.ck_gen.specs.Kept.{holds_over, LooksBack}
use Rattle.ck_gen.proofs.Monitored.{IsAmong, looks_back}
use Rattle.rvfi_port.proofs.AddedRegs.{channels_on, retire_on}
use Rattle.ck_gen.specs.Monitors.{TellsOver, holds_in}
use Rattle.ck_gen.proofs.Recalled.{IsRecalled, to_kept, to_new, given, entries, all_entries, last, all_shown}
use Rattle.ck_gen.proofs.Recalled.{given_back, show_back, among_nodes, dmem_on, unless_held}

-- The nodes of a monitor that looks back, behind those that recall: whether the retirement holds, and whether it
-- doesn't.
pub record IsBuilt (old worded kept judged new : Netlist) (port : Port) (check : Check) (c : Channel)
    (words ids : List ℕ) (held id : ℕ) : Type 0 where
  pub kind : LooksBack check.kind
  pub recalled : IsRecalled old worded kept new port check words ids
  pub among : IsAmong port.channels check.channel c
  pub judged_added : AddsNodes kept judged
  pub judges : TellsOver kept judged (earlier_of check.kind (length port.channels - 1 - check.channel) ids)
      (λ g es. holds_over (value_at kept g c.valid) (retire_at kept g c) es (dmem_addr_at kept g port.dmem)
      check.kind) held
  pub added : AddsNodes judged new
  pub tells : Tells judged new (λ g. is_one judged g c.valid && not (is_one judged g held)) id

module _ (old worded kept judged new : Netlist) (port : Port) (check : Check) (c : Channel)
    (words ids : List ℕ) (held id : ℕ) (b : IsBuilt old worded kept judged new port check c words ids held id)
    (inputs : ℕ → List ℕ) (start : State) (run : IsRun new inputs start) where
  to_kept_net : AddsRegs old kept
  to_kept_net = to_kept old worded kept new port check words ids b.recalled

  to_new_net : AddsRegs old new
  to_new_net = to_new old worded kept new port check words ids b.recalled

  abbrev g : Given
  g = cycle_at new inputs start check.cycle

  abbrev es : List Entry
  es = earlier_of check.kind (length port.channels - 1 - check.channel)
      (all_entries old worded kept new port check words ids b.recalled inputs start run)

  channel_now : AreChannelNodes kept c
  channel_now =
      among_nodes kept port.channels check.channel c b.among
      (channels_on old kept port.channels to_kept_net b.recalled.port_nodes.channels)

  same_probe : dmem_addr_at kept g port.dmem ≡ dmem_addr_at new g port.dmem
  same_probe =
      dmem_on old kept g port.dmem to_kept_net b.recalled.port_nodes.dmem
      ∙ sym (dmem_on old new g port.dmem to_new_net b.recalled.port_nodes.dmem)

  held_is : is_one judged g held
      ≡ holds_over (value_at new g c.valid) (retire_at new g c) es (dmem_addr_at new g port.dmem) check.kind
  held_is =
      let n = length port.channels - 1 - check.channel in
      let more = adds_regs kept new b.recalled.added in
      b.judges.value g es
      (given_back kept new g b.recalled.added
      (given old worded kept new port check words ids b.recalled inputs start run check.cycle))
      (show_back kept new 102 g (earlier_of check.kind n ids) es b.recalled.added
      (earlier_nodes kept 102 check.kind n ids b.recalled.history_nodes)
      (show_earlier new g check.kind n ids (all_entries old worded kept new port check words ids b.recalled inputs start run)
      (all_shown old worded kept new port check words ids b.recalled inputs start run)))
      ∙ (λ i. holds_over (sym (more.values g c.valid channel_now.valid.0) i)
      (sym (retire_on kept new g c more channel_now) i) es (same_probe i) check.kind)

  valid_there : IsNode judged c.valid
  valid_there =
      (among_nodes judged port.channels check.channel c b.among
      (channels_on old judged port.channels (regs_on old kept judged to_kept_net (adds_regs kept judged b.judged_added))
      b.recalled.port_nodes.channels)).valid.0

  -- in the check's cycle the node is 1 exactly where the property fails
  pub fails : (opts : Opts)
      → value_at new g id ≡ bit (not (holds_in new (λ k. cycle_at new inputs start k) port check opts))
  fails opts =
      let d = check.cycle - check.start in
      let n = length port.channels - 1 - check.channel in
      let run_at : ℕ → Given = λ k. cycle_at new inputs start k in
      let e : d + 1 ≡ suc d = omega arith in
      let valid : is_one judged g c.valid ≡ retires new g c =
      sym (one_on judged new g c.valid b.added valid_there) in
      let property_is : holds_in new run_at port check opts
      ≡ (if retires new g c then holds_over (value_at new g c.valid) (retire_at new g c) es
      (dmem_addr_at new g port.dmem) check.kind else true) =
      ap (λ k. property check (retirements new run_at port.channels check.start k) (probe_at new g port) opts) e
      ∙ looks_back new run_at port.channels c check d (probe_at new g port) opts b.among
      (last old worded kept new port check words ids b.recalled inputs start run) b.kind
      ∙ ap (λ k. if retires new g c then holds_over (value_at new g c.valid) (retire_at new g c)
      (earlier_of check.kind n (past (entries old worded kept new port check words ids b.recalled inputs start run) check.start k))
      (dmem_addr_at new g port.dmem) check.kind else true) (sym e) in
      b.tells.value g (given_back judged new g b.added
      (given old worded kept new port check words ids b.recalled inputs start run check.cycle))
      ∙ (λ i. bit (valid i && not (held_is i)))
      ∙ unless_held (retires new g c) _
      ∙ ap (λ x. bit (not x)) (sym property_is)
