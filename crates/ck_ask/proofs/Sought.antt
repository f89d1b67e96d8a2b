-- What is sought of targets and of rows of Zba and Zbs, by the channel that it is sought in.
use Rattle.std.specs.Prelude.{◌≡◌, refl, ℕ, zero, suc, ◌+◌, ◌-◌, ◌<◌, ◌==◌, Bool, true, false, not, ◌&&◌, if◌then◌else◌}
use Rattle.std.specs.Prelude.{List, [], ◌∷◌, ◌++◌, Option, Some, None, length, slice_get}
use Rattle.std.specs.List.{AllByRecursion}
use Rattle.std.proofs.Common.{ap, sym, ◌∙◌, arith, subst}
use Rattle.fv_bits.specs.Bits.{bit}
use Rattle.rv_table.specs.declared.retire.Retire.{Retire}
use Rattle.rv_table.specs.declared.retire.Opts.{Opts}
use Rattle.rv_table.specs.declared.row.RowId.{RowId}
use Rattle.rv_table.specs.Matching.{matches}
use Rattle.rv_zb.specs.declared.row.ZbRow.{ZbRow}
use Rattle.rv_zb.specs.Monitors.{disagrees}
use Rattle.wn_net.specs.Value.{Given}
use Rattle.wn_net.specs.Net.{Netlist, IsNet, value_at}
use Rattle.wn_net.specs.Changes.{AddsNodes}
use Rattle.wn_net.proofs.Laws.{value_on}
use Rattle.wn_run.specs.Runs.{cycle_at}
use Rattle.wn_run.proofs.Given.{cycles_given}
use Rattle.rvfi_port.specs.declared.port.Channel.{Channel}
use Rattle.rvfi_port.specs.declared.port.Port.{Port}
use Rattle.rvfi_port.specs.Channels.{retires, retire_at}
use Rattle.rvfi_port.specs.Ports.{AreChannelNodes, ArePortNodes}
use Rattle.rvfi_port.proofs.AddedNodes.{retire_on}
use Rattle.ck_cfg.specs.declared.check.Check.{Check}
use Rattle.ck_cfg.specs.declared.kind.CheckKind.TheVariants as kinds
use Rattle.ck_spec.specs.declared.retired.Retired.{Retired}
use Rattle.ck_spec.specs.Lists.{where_found}
use Rattle.ck_history.specs.Truths.{Tells}
use Rattle.ck_gen.specs.Retirements.{retirements}
use Rattle.ck_gen.proofs.Monitored.{IsAmong}
use Rattle.ck_gen.proofs.Property.{found_is}
use Rattle.ck_gen.proofs.Recalled.{given_back}
use Rattle.ck_cover.specs.declared.target.Target.{Target}
use Rattle.ck_cover.specs.Goals.{is_goal, is_goal_of}
use Rattle.ck_cover.proofs.Channels.{at_place}
use Rattle.ck_ask.specs.declared.question.Question.TheVariants as question
use Rattle.ck_ask.specs.declared.zb_check.ZbCheck.{ZbCheck}
use Rattle.ck_ask.specs.Questions.{retired_at, is_there, is_reached}
use Rattle.ck_ask.specs.Asked.{IsAsked, differs_at}

-- a check that is about this channel and cycle
abbrev seen : ℕ → ℕ → Check
seen channel cycle = record {
  name = [];
  kind = kinds.Ill;
  row = None;
  channel = channel;
  start = cycle;
  trig = cycle;
  cycle = cycle;
}

twice_turned : (b : Bool) → not (not b) ≡ b
twice_turned true = refl
twice_turned false = refl

turned_there : (such : Retire → Bool) (o : Option Retired)
    → is_there such o ≡ not (where_found o (λ r. not (such r)))
turned_there such None = refl
turned_there such (Some r) = sym (twice_turned (such r.retire))

both_of : (b s : Bool) → not (if b then not s else true) ≡ (b && s)
both_of true s = twice_turned s
both_of false s = refl

-- ---- the channel of a number

among : (cs : List Channel) (i : ℕ) (c : Channel) → slice_get cs i ≡ Some c → IsAmong cs i c
among [] i c here = absurd (let f : ⊥ = cc in f)
among (x ∷ xs) zero c here =
    let e : x ≡ c = cc in
    record { before = []; behind = xs; all = ap (λ y. y ∷ xs) (sym e); many = refl }
among (x ∷ xs) (suc i) c here =
    let rest = among xs i c here in
    record {
      before = x ∷ rest.before;
      behind = rest.behind;
      all = ap (λ ys. x ∷ ys) rest.all;
      many = ap suc rest.many;
    }

none_there : {X : Type 0} (xs : List X) (i : ℕ) → i < length xs → slice_get xs i ≡ None → ⊥
none_there [] i below e = omega (arith, below)
none_there (x ∷ xs) zero below e = cc
none_there (x ∷ xs) (suc i) below e = none_there xs i (omega (arith, below)) e

-- ---- what it retires

there_in : (net : Netlist) (run : ℕ → Given) (cs : List Channel) (i : ℕ) (c : Channel) (cycle count : ℕ)
    (such : Retire → Bool) → slice_get cs i ≡ Some c → 0 < count
    → is_there such (retired_at i cycle (retirements net run cs cycle count))
    ≡ (retires net (run cycle) c && such (retire_at net (run cycle) c))
there_in net run cs i c cycle count such here some =
    let a = among cs i c here in
    let P : List Channel → Type 0 = λ xs. is_there such (retired_at i cycle (retirements net run xs cycle count))
    ≡ (retires net (run cycle) c && such (retire_at net (run cycle) c)) in
    subst P a.all
    (turned_there such (retired_at i cycle (retirements net run (a.before ++ c ∷ a.behind) cycle count))
    ∙ ap not (found_is net run a.before a.behind c (seen i cycle) a.many cycle (λ r. not (such r)) cycle count
    (omega arith) (omega (arith, some)))
    ∙ both_of (retires net (run cycle) c) (such (retire_at net (run cycle) c)))

target_at : (net : Netlist) (run : ℕ → Given) (cs : List Channel) (i cycle count : ℕ) (row : Option RowId)
    (o : Option Channel) → slice_get cs i ≡ o → i < length cs → 0 < count
    → is_reached row (retired_at i cycle (retirements net run cs cycle count)) ≡ is_goal_of net (run cycle) o row
target_at net run cs i cycle count None o here below some = refl
target_at net run cs i cycle count (Some row) None here below some = absurd (none_there cs i below here)
target_at net run cs i cycle count (Some row) (Some c) here below some =
    there_in net run cs i c cycle count (λ x. matches row x.insn) here some

differs_in : (net : Netlist) (run : ℕ → Given) (cs : List Channel) (i cycle count : ℕ) (row : ZbRow)
    (o : Option Channel) → slice_get cs i ≡ o → i < length cs → 0 < count
    → is_there (disagrees row) (retired_at i cycle (retirements net run cs cycle count))
    ≡ differs_at net (run cycle) o row
differs_in net run cs i cycle count row None here below some = absurd (none_there cs i below here)
differs_in net run cs i cycle count row (Some c) here below some =
    there_in net run cs i c cycle count (disagrees row) here some

-- ---- behind more nodes

module _ (old new : Netlist) (g : Given) (adds : AddsNodes old new) (cs : List Channel)
    (own : AllByRecursion (AreChannelNodes old) cs) (i : ℕ) where
  goal_on : (row : Option RowId) (o : Option Channel) → slice_get cs i ≡ o
      → is_goal_of old g o row ≡ is_goal_of new g o row
  goal_on None o here = refl
  goal_on (Some row) None here = refl
  goal_on (Some row) (Some c) here =
      let c_own = at_place (AreChannelNodes old) cs i c here own in
      let valid : value_at old g c.valid ≡ value_at new g c.valid =
      sym (value_on old new g c.valid adds c_own.valid.0) in
      let same : retire_at old g c ≡ retire_at new g c = sym (retire_on old new g c adds c_own) in
      (λ j. (valid j == 1) && matches row (same j).insn)

  differs_on : (row : ZbRow) (o : Option Channel) → slice_get cs i ≡ o → differs_at old g o row ≡ differs_at new g o row
  differs_on row None here = refl
  differs_on row (Some c) here =
      let c_own = at_place (AreChannelNodes old) cs i c here own in
      let valid : value_at old g c.valid ≡ value_at new g c.valid =
      sym (value_on old new g c.valid adds c_own.valid.0) in
      let same : retire_at old g c ≡ retire_at new g c = sym (retire_on old new g c adds c_own) in
      (λ j. (valid j == 1) && disagrees row (same j))

-- ---- the nodes

pub target_asked : (old new : Netlist) (port : Port) (t : Target) (opts : Opts) (id : ℕ) → ArePortNodes old port
    → t.channel < length port.channels → AddsNodes old new → IsNet new
    → Tells old new (λ g. is_goal old g port t) id → IsAsked new port (question.Target t) opts id
target_asked old new port t opts id own below adds whole tells = λ inputs start run.
    let at : ℕ → Given = λ k. cycle_at new inputs start k in
    let o = slice_get port.channels t.channel in
    tells.value (at t.cycle) (given_back old new (at t.cycle) adds (cycles_given new inputs start t.cycle whole run))
    ∙ ap bit (goal_on old new (at t.cycle) adds port.channels own.channels t.channel t.row o refl)
    ∙ ap bit (sym (target_at new at port.channels t.channel t.cycle (t.cycle - t.cycle + 1) t.row o refl below
    (omega arith)))

pub zb_asked : (old new : Netlist) (port : Port) (z : ZbCheck) (opts : Opts) (id : ℕ) → ArePortNodes old port
    → z.channel < length port.channels → AddsNodes old new → IsNet new
    → Tells old new (λ g. differs_at old g (slice_get port.channels z.channel) z.row) id
    → IsAsked new port (question.Zb z) opts id
zb_asked old new port z opts id own below adds whole tells = λ inputs start run.
    let at : ℕ → Given = λ k. cycle_at new inputs start k in
    let o = slice_get port.channels z.channel in
    tells.value (at z.cycle) (given_back old new (at z.cycle) adds (cycles_given new inputs start z.cycle whole run))
    ∙ ap bit (differs_on old new (at z.cycle) adds port.channels own.channels z.channel z.row o refl)
    ∙ ap bit (sym (differs_in new at port.channels z.channel z.cycle (z.cycle - z.cycle + 1) z.row o refl below
    (omega arith)))
