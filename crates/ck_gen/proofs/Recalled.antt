-- The entries that a net recalls in a run: words of the channels, and their history.
use Rattle.std.specs.Prelude.{◌≡◌, refl, ℕ, zero, suc, ◌+◌, ◌-◌, ◌*◌, ◌≤◌, Bool, true, false, not, ◌&&◌}
use Rattle.std.specs.Prelude.{if◌then◌else◌, List, [], ◌∷◌, ◌++◌, length, map, take, drop, Option, Some, None}
use Rattle.std.specs.List.{AllByRecursion}
use Rattle.std.proofs.Common.{ap, sym, ◌∙◌, arith, subst}
use Rattle.fv_bits.specs.Bits.{bit}
use Rattle.wn_net.specs.declared.parts.State.{State}
use Rattle.wn_net.specs.declared.parts.Mem.{Mem}
use Rattle.wn_net.specs.declared.parts.Reg.{Reg}
use Rattle.wn_net.specs.declared.parts.Input.{Input}
use Rattle.wn_net.specs.Value.{Given}
use Rattle.wn_net.specs.Net.{Netlist, IsNet, AreNodesOf, value_at}
use Rattle.wn_net.specs.Given.{IsGiven, AreNumbersOf, AreMemsOf}
use Rattle.wn_net.specs.Changes.{AddsNodes, AddsRegs}
use Rattle.wn_net.proofs.Laws.{adds_regs, regs_on, value_on}
use Rattle.wn_run.specs.Runs.{cycle_at, IsRun}
use Rattle.wn_run.proofs.Given.{cycles_given}
use Rattle.rvfi_port.specs.declared.port.Channel.{Channel}
use Rattle.rvfi_port.specs.declared.port.Port.{Port}
use Rattle.ck_cfg.specs.declared.check.Check.{Check}
use Rattle.ck_history.specs.Entries.{Entry, Show, packed}
use Rattle.ck_history.specs.Lines.{IsHistory, past}
use Rattle.ck_history.proofs.Lines.{history_on}
use Rattle.ck_history.proofs.Histories.{history_shows}
use Rattle.rvfi_port.specs.Ports.{AreChannelNodes, ArePortNodes, IsDmemNode}
use Rattle.ck_gen.specs.Retirements.{dmem_addr_at}
use Rattle.ck_gen.specs.Kept.{kept_in}
use Rattle.ck_gen.proofs.Monitored.{IsAmong}
use Rattle.rvfi_port.proofs.AddedRegs.{channels_on}
use Rattle.ck_gen.proofs.Shown.{kept_on, words_show}

-- numbers of a net with more nodes are numbers of the old one
pub given_back : (old new : Netlist) (g : Given) → AddsNodes old new → IsGiven new g → IsGiven old g
given_back old new g adds given =
    let P : List Input → Type 0 = λ xs. AreNumbersOf (map (λ i. i.width) xs) g.inputs in
    let Q : List Reg → Type 0 = λ xs. AreNumbersOf (map (λ r. r.width) xs) g.state.regs in
    let R : List Mem → Type 0 = λ xs. AreMemsOf xs g.state.mems in
    record {
      inputs = subst P adds.inputs given.inputs;
      state = record { regs = subst Q adds.regs given.state.regs; mems = subst R adds.mems given.state.mems };
    }

pub show_back : (old new : Netlist) (w : ℕ) (g : Given) (ids : List ℕ) (es : List Entry) → AddsNodes old new
    → AreNodesOf old w ids → Show new g ids es → Show old g ids es
show_back old new w g [] [] adds own show = tt
show_back old new w g (id ∷ ids) (e ∷ es) adds own show =
    (sym (value_on old new g id adds own.0.0) ∙ show.0, show.1, show_back old new w g ids es adds own.1 show.2)
show_back old new w g (id ∷ ids) [] adds own show = absurd show
show_back old new w g [] (e ∷ es) adds own show = absurd show

map_on : (old new : Netlist) (w : ℕ) (g : Given) (ids : List ℕ) → AddsRegs old new → AreNodesOf old w ids
    → map (value_at new g) ids ≡ map (value_at old g) ids
map_on old new w g [] adds own = refl
map_on old new w g (id ∷ ids) adds own =
    λ i. adds.values g id own.0.0 i ∷ map_on old new w g ids adds own.1 i

pub drop_nodes : (net : Netlist) (w k : ℕ) (ids : List ℕ) → AreNodesOf net w ids → AreNodesOf net w (drop k ids)
drop_nodes net w zero ids own = own
drop_nodes net w (suc k) [] own = tt
drop_nodes net w (suc k) (id ∷ ids) own = drop_nodes net w k ids own.1

channel_of : (net : Netlist) (before : List Channel) (c : Channel) (behind : List Channel)
    → AllByRecursion (AreChannelNodes net) (before ++ c ∷ behind) → AreChannelNodes net c
channel_of net [] c behind own = own.0
channel_of net (x ∷ xs) c behind own = channel_of net xs c behind own.1

pub among_nodes : (net : Netlist) (cs : List Channel) (place : ℕ) (c : Channel) → IsAmong cs place c
    → AllByRecursion (AreChannelNodes net) cs → AreChannelNodes net c
among_nodes net cs place c among own =
    let P : List Channel → Type 0 = λ xs. AllByRecursion (AreChannelNodes net) xs in
    channel_of net among.before c among.behind (subst P (sym among.all) own)

pub dmem_on : (old new : Netlist) (g : Given) (dmem : Option ℕ) → AddsRegs old new → IsDmemNode old dmem
    → dmem_addr_at new g dmem ≡ dmem_addr_at old g dmem
dmem_on old new g None adds own = refl
dmem_on old new g (Some id) adds own = adds.values g id own.0

-- there is no retirement, or it holds
pub unless_held : (b h : Bool) → bit (b && not h) ≡ bit (not (if b then h else true))
unless_held true h = refl
unless_held false h = refl

-- Words of the channels, their history, and nodes behind it.
pub record IsRecalled (old worded kept new : Netlist) (port : Port) (check : Check) (words ids : List ℕ) : Type 0 where
  pub port_nodes : ArePortNodes old port
  pub order : check.start ≤ check.cycle
  pub words_added : AddsNodes old worded
  pub word_nodes : AreNodesOf worded 102 words
  pub many : length words ≡ length port.channels
  pub values : (g : Given)
      → map (value_at worded g) words ≡ map packed (kept_in check.kind old g port.channels)
  pub history_added : AddsRegs worded kept
  pub history_nodes : AreNodesOf kept 102 ids
  pub long : length ids ≡ length words * (check.cycle - check.start + 1)
  pub front : take (length words) ids ≡ words
  pub behind : IsHistory kept (length words) ids
  pub kept_whole : IsNet kept
  pub added : AddsNodes kept new
  pub whole : IsNet new

module _ (old worded kept new : Netlist) (port : Port) (check : Check) (words ids : List ℕ)
    (b : IsRecalled old worded kept new port check words ids) where
  pub to_kept : AddsRegs old kept
  to_kept = regs_on old worded kept (adds_regs old worded b.words_added) b.history_added

  pub to_new : AddsRegs old new
  to_new = regs_on old kept new to_kept (adds_regs kept new b.added)

  worded_to : AddsRegs worded new
  worded_to = regs_on worded kept new b.history_added (adds_regs kept new b.added)

  module _ (inputs : ℕ → List ℕ) (start : State) (run : IsRun new inputs start) where
    abbrev pub at : ℕ → Given
    at k = cycle_at new inputs start k

    pub given : (k : ℕ) → IsGiven new (at k)
    given k = cycles_given new inputs start k b.whole run

    abbrev pub entries : ℕ → List Entry
    entries k = kept_in check.kind new (at k) port.channels

    words_now : (k : ℕ) → Show new (at k) words (entries k)
    words_now k =
        words_show new (at k) check.kind port.channels words b.whole (given k)
        (channels_on old new port.channels to_new b.port_nodes.channels)
        (map_on worded new 102 (at k) words worded_to b.word_nodes
        ∙ b.values (at k)
        ∙ ap (map packed) (sym (kept_on check.kind old new (at k) port.channels to_new b.port_nodes.channels)))

    abbrev pub all_entries : List Entry
    all_entries = past entries check.start (check.cycle - check.start + 1)

    pub last : check.cycle ≡ check.start + (check.cycle - check.start)
    last = omega (arith, b.order)

    -- in the check's cycle the history shows them all
    pub all_shown : Show new (at check.cycle) ids all_entries
    all_shown =
        let P : ℕ → Type 0 = λ k. Show new (at k) ids all_entries in
        subst P (sym last)
        (history_shows new inputs start entries words ids check.start (check.cycle - check.start) words_now b.long
        b.front
        (history_on kept new 102 (length words) ids b.kept_whole (adds_regs kept new b.added) b.history_nodes b.behind))
