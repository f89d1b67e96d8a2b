-- The monitor of a check that looks around.
use Rattle.std.specs.Prelude.{◌≡◌, ℕ, ◌<◌, ◌≤◌, ◌==◌, not, ◌&&◌, List, ◌∷◌}
use Rattle.std.specs.Prelude.{length, slice_index}
use Rattle.std.proofs.Common.{ap, sym, ◌∙◌}
use Rattle.fv_bits.specs.Bits.{bit}
use Rattle.rv_table.specs.declared.retire.Opts.{Opts}
use Rattle.wn_net.specs.declared.parts.State.{State}
use Rattle.wn_net.specs.Value.{Given}
use Rattle.wn_net.specs.Net.{Netlist, value_at}
use Rattle.wn_net.specs.Given.{IsGiven}
use Rattle.wn_net.specs.Changes.{AddsNodes}
use Rattle.wn_run.specs.Runs.{cycle_at, IsRun}
use Rattle.rvfi_port.specs.declared.port.Channel.{Channel}
use Rattle.rvfi_port.specs.declared.port.Port.{Port}
use Rattle.rvfi_port.specs.Channels.{retires, retire_at}
use Rattle.ck_cfg.specs.declared.check.Check.{Check}
use Rattle.ck_history.specs.Truths.{Tells, is_one}
use Rattle.ck_history.proofs.Laws.{one_on}
use Rattle.ck_history.specs.declared.entry.EntryNodes.{EntryNodes}
use Rattle.ck_history.specs.Entries.{Entry, IsEntry, AreEntryNodes, Show, entry_at, packed}
use Rattle.ck_history.proofs.Entries.{show_on, shown_at}
use Rattle.ck_gen.specs.Retirements.{probe_at}
use Rattle.ck_gen.specs.Kept.{kept}
use Rattle.ck_gen.proofs.Cycles.{kept_there}
use Rattle.ck_gen.proofs.Monitored.{IsAmong}
use Rattle.ck_gen.specs.Around.{LooksAround, holds_around, place_of}
use Rattle.ck_gen.proofs.AroundTrigger.{looks_around}
use Rattle.ck_gen.specs.Monitors.{holds_in}
use Rattle.ck_gen.proofs.Recalled.{IsRecalled, given, all_entries, all_shown, given_back, show_back, unless_held}

first_of : (x y : Entry) (xs ys : List Entry) → x ∷ xs ≡ y ∷ ys → x ≡ y
first_of x y xs ys e = cc

-- The nodes of such a monitor, behind those that recall: the entry of the trigger's retirement, whether it holds, and
-- whether it doesn't.
pub record IsTriggered (old worded kept_net opened judged new : Netlist) (port : Port) (check : Check) (c : Channel)
    (words ids : List ℕ) (own : EntryNodes) (held id : ℕ) : Type 0 where
  pub kind : LooksAround check.kind
  pub recalled : IsRecalled old worded kept_net new port check words ids
  pub among : IsAmong port.channels check.channel c
  pub low : check.start ≤ check.trig
  pub high : check.trig ≤ check.cycle
  pub within : place_of check (length port.channels) < length ids
  pub opened_added : AddsNodes kept_net opened
  pub own_nodes : AreEntryNodes opened own
  pub opens : (g : Given) (e : Entry) → IsEntry e
      → value_at kept_net g (slice_index ids (place_of check (length port.channels))) ≡ packed e
      → entry_at opened g own ≡ e
  pub judged_added : AddsNodes opened judged
  pub judges : (g : Given) (es : List Entry) → IsGiven opened g → Show opened g ids es
      → is_one judged g held
      ≡ holds_around check.kind (place_of check (length port.channels)) (entry_at opened g own) es
  pub added : AddsNodes judged new
  pub tells : Tells judged new (λ g. is_one judged g own.there && not (is_one judged g held)) id

module _ (old worded kept_net opened judged new : Netlist) (port : Port) (check : Check) (c : Channel)
    (words ids : List ℕ) (own : EntryNodes) (held id : ℕ)
    (b : IsTriggered old worded kept_net opened judged new port check c words ids own held id)
    (inputs : ℕ → List ℕ) (start : State) (run : IsRun new inputs start) where
  -- in the check's cycle the node is 1 exactly where the property fails
  pub turned_fails : (opts : Opts)
      → value_at new (cycle_at new inputs start check.cycle) id
      ≡ bit (not (holds_in new (λ k. cycle_at new inputs start k) port check opts))
  turned_fails opts =
      let run_at : ℕ → Given = λ k. cycle_at new inputs start k in
      let g = run_at check.cycle in
      let place = place_of check (length port.channels) in
      let es = all_entries old worded kept_net new port check words ids b.recalled inputs start run in
      let given_new = given old worded kept_net new port check words ids b.recalled inputs start run check.cycle in
      let given_judged = given_back judged new g b.added given_new in
      let given_opened = given_back opened judged g b.judged_added given_judged in
      let shown : Show kept_net g ids es =
      show_back kept_net new 102 g ids es b.recalled.added b.recalled.history_nodes
      (all_shown old worded kept_net new port check words ids b.recalled inputs start run) in
      let at = shown_at kept_net g ids es place shown b.within in
      let looks = looks_around new run_at port.channels c check (probe_at new g port) opts b.among b.low b.high
      b.kind in
      let wanted : Entry = kept check.kind (value_at new (run_at check.trig) c.valid)
      (retire_at new (run_at check.trig) c) in
      let same : at.entry ≡ wanted = first_of at.entry wanted _ _ (sym at.here ∙ looks.here) in
      let own_is : entry_at opened g own ≡ wanted = b.opens g at.entry at.own at.value ∙ same in
      let held_is : is_one judged g held ≡ holds_around check.kind place wanted es =
      b.judges g es given_opened
      (show_on kept_net opened 102 g ids es b.opened_added b.recalled.history_nodes shown)
      ∙ ap (λ e. holds_around check.kind place e es) own_is in
      let valid : is_one judged g own.there ≡ retires new (run_at check.trig) c =
      one_on opened judged g own.there b.judged_added b.own_nodes.there.0
      ∙ ap (λ (e : Entry). e.there == 1) own_is
      ∙ ap (λ n. n == 1) (kept_there check.kind (value_at new (run_at check.trig) c.valid)
      (retire_at new (run_at check.trig) c)) in
      b.tells.value g given_judged
      ∙ (λ i. bit (valid i && not (held_is i)))
      ∙ unless_held (retires new (run_at check.trig) c) _
      ∙ ap (λ x. bit (not x)) (sym looks.held)
