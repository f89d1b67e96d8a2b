-- A run of a net with the node of a question gives what is sought exactly where the run of the net itself does.
use Rattle.std.specs.Prelude.{◌≡◌, refl, ℕ, zero, suc, ◌+◌, ◌-◌, ◌≤◌, ◌==◌, ◌↔◌, if◌then◌else◌, Bool, true, false}
use Rattle.std.specs.Prelude.{List, [], ◌∷◌, ◌++◌, length, map, Option, Some, None}
use Rattle.std.specs.List.{AllByRecursion}
use Rattle.std.proofs.Common.{sym, ◌∙◌, arith, subst}
use Rattle.fv_bits.specs.Bits.{bit}
use Rattle.rv_table.specs.declared.retire.Opts.{Opts}
use Rattle.wn_net.specs.declared.parts.State.{State}
use Rattle.wn_net.specs.Value.{Given}
use Rattle.wn_net.specs.Net.{Netlist, AreNodes, IsNet, IsNode, value_at}
use Rattle.wn_net.specs.Changes.{AddsRegs}
use Rattle.wn_run.specs.Runs.{Choices, AreChoicesOf, IsAssumed, cycle_at, first_regs, inputs_at, start_of}
use Rattle.wn_run.proofs.OldRun.{old_run}
use Rattle.wn_run.proofs.Chosen.{begins_as}
use Rattle.wn_run.proofs.Given.{choices_run}
use Rattle.rvfi_port.specs.declared.port.Channel.{Channel}
use Rattle.rvfi_port.specs.declared.port.Port.{Port}
use Rattle.rvfi_port.specs.Channels.{retire_at}
use Rattle.rvfi_port.specs.Ports.{AreChannelNodes, AreImemNodes, ArePortNodes, IsDmemNode}
use Rattle.ck_gen.specs.Retirements.{dmem_addr_at, imem_addr_at, imem_data_at, probe_at, retired_from, retired_in}
use Rattle.ck_gen.specs.Retirements.{retirements}
use Rattle.ck_ask.specs.Asked.{IsAsked, given_in}
use Rattle.ck_ask.specs.Questions.{question_cycle, question_first, sought}
use Rattle.ck_ask.specs.declared.question.Question.{Question}
use Rattle.bm_unroll.specs.Frames.{IsBadRun}
use Rattle.bm_decide.specs.Runs.{values_in}
use Rattle.bm_decide.specs.Verdicts.{Gives}

module _ (old new : Netlist) (inputs : ℕ → List ℕ) (start : State) (whole : IsNet old) (adds : AddsRegs old new) where
  -- the numbers of a cycle, in the net with more nodes and registers and in the old one
  abbrev ran : ℕ → Given
  ran = cycle_at new inputs start

  abbrev was : ℕ → Given
  was = cycle_at old inputs (first_regs (length old.regs) start)

  same : (k id : ℕ) → IsNode old id → value_at new (ran k) id ≡ value_at old (was k) id
  same k id own = (old_run old new inputs start k whole adds).value id own

  retire_same : (k : ℕ) (c : Channel) → AreChannelNodes old c → retire_at new (ran k) c ≡ retire_at old (was k) c
  retire_same k c own = λ i. record {
    order = same k c.order own.order.0 i;
    insn = same k c.insn own.insn.0 i;
    trap = same k c.trap own.trap.0 i == 1;
    halt = same k c.halt own.halt.0 i == 1;
    intr = same k c.intr own.intr.0 i == 1;
    rs1_addr = same k c.rs1_addr own.rs1_addr.0 i;
    rs2_addr = same k c.rs2_addr own.rs2_addr.0 i;
    rs1_rdata = same k c.rs1_rdata own.rs1_rdata.0 i;
    rs2_rdata = same k c.rs2_rdata own.rs2_rdata.0 i;
    rd_addr = same k c.rd_addr own.rd_addr.0 i;
    rd_wdata = same k c.rd_wdata own.rd_wdata.0 i;
    pc_rdata = same k c.pc_rdata own.pc_rdata.0 i;
    pc_wdata = same k c.pc_wdata own.pc_wdata.0 i;
    mem_addr = same k c.mem_addr own.mem_addr.0 i;
    mem_rmask = same k c.mem_rmask own.mem_rmask.0 i;
    mem_wmask = same k c.mem_wmask own.mem_wmask.0 i;
    mem_rdata = same k c.mem_rdata own.mem_rdata.0 i;
    mem_wdata = same k c.mem_wdata own.mem_wdata.0 i;
  }

  retired_same : (k channel : ℕ) (c : Channel) → AreChannelNodes old c
      → retired_in new (ran k) k channel c ≡ retired_in old (was k) k channel c
  retired_same k channel c own = λ i.
      if same k c.valid own.valid.0 i == 1
      then record { cycle = k; channel = channel; retire = retire_same k c own i } ∷ [] else []

  cycle_same : (k channel : ℕ) (cs : List Channel) → AllByRecursion (AreChannelNodes old) cs
      → retired_from new (ran k) k channel cs ≡ retired_from old (was k) k channel cs
  cycle_same k channel [] own = refl
  cycle_same k channel (c ∷ cs) own = λ i.
      retired_same k channel c own.0 i ++ cycle_same k (channel + 1) cs own.1 i

  retirements_same : (cs : List Channel) (first count : ℕ) → AllByRecursion (AreChannelNodes old) cs
      → retirements new ran cs first count ≡ retirements old was cs first count
  retirements_same cs first zero own = refl
  retirements_same cs first (suc count) own = λ i.
      retirements_same cs first count own i ++ cycle_same (first + count) 0 cs own i

  imem_addr_same : (k : ℕ) (p : Option (ℕ × ℕ)) → AreImemNodes old p
      → imem_addr_at new (ran k) p ≡ imem_addr_at old (was k) p
  imem_addr_same k None own = refl
  imem_addr_same k (Some p) own = same k p.0 own.0.0

  imem_data_same : (k : ℕ) (p : Option (ℕ × ℕ)) → AreImemNodes old p
      → imem_data_at new (ran k) p ≡ imem_data_at old (was k) p
  imem_data_same k None own = refl
  imem_data_same k (Some p) own = same k p.1 own.1.0

  dmem_addr_same : (k : ℕ) (p : Option ℕ) → IsDmemNode old p
      → dmem_addr_at new (ran k) p ≡ dmem_addr_at old (was k) p
  dmem_addr_same k None own = refl
  dmem_addr_same k (Some id) own = same k id own.0

  probe_same : (k : ℕ) (port : Port) → ArePortNodes old port
      → probe_at new (ran k) port ≡ probe_at old (was k) port
  probe_same k port own = λ i. record {
    imem_addr = imem_addr_same k port.imem own.imem i;
    imem_data = imem_data_same k port.imem own.imem i;
    dmem_addr = dmem_addr_same k port.dmem own.dmem i;
  }

  given_same : (port : Port) (q : Question) (opts : Opts) → ArePortNodes old port
      → given_in new ran port q opts ≡ given_in old was port q opts
  given_same port q opts own = λ i.
      sought q opts
      (retirements_same port.channels (question_first q) (question_cycle q - question_first q + 1) own.channels i)
      (probe_same (question_cycle q) port own i)

  assumed_same : (d : ℕ) → IsAssumed new inputs start d ↔ IsAssumed old inputs (first_regs (length old.regs) start) d
  assumed_same d =
      let to = λ (h : IsAssumed new inputs start d) (k : ℕ) (le : k ≤ d).
      (old_run old new inputs start k whole adds).met.0 (h k le) in
      let from = λ (h : IsAssumed old inputs (first_regs (length old.regs) start) d) (k : ℕ) (le : k ≤ d).
      (old_run old new inputs start k whole adds).met.1 (h k le) in
      (to, from)

-- ---- runs that give what is sought

not_zero : (b : Bool) (n : ℕ) → n ≡ bit b → (n ≡ 0 → ⊥) → b ≡ true
not_zero true n e h = refl
not_zero false n e h = absurd (h e)

is_one : (b : Bool) (n : ℕ) → n ≡ bit b → b ≡ true → n ≡ 0 → ⊥
is_one true n e f z = absurd (omega (arith, e, z))
is_one false n e f z = cc

-- a run of the net with the node is bad exactly where the run of the net itself gives what is sought
pub bad_gives : (old new : Netlist) (port : Port) (q : Question) (opts : Opts) (bad : ℕ) (ch : Choices)
    → IsNet old → IsNet new → AddsRegs old new → ArePortNodes old port → IsAsked new port q opts bad
    → AreChoicesOf new ch → IsBadRun new bad (question_cycle q) ch ↔ Gives old port q opts ch
bad_gives old new port q opts bad ch whole grown adds own asked of =
    let inputs = inputs_at new ch in
    let start = start_of new ch in
    let begins = begins_as old new ch adds in
    let n = length old.regs in
    let K = question_cycle q in
    let same_inputs : inputs ≡ inputs_at old ch = λ i k. begins.inputs k i in
    let Was : (ℕ → List ℕ) → State → Type 0 = λ ins s.
    IsAssumed old ins s K × (given_in old (cycle_at old ins s) port q opts ≡ true) in
    let I : (ℕ → List ℕ) → Type 0 = λ ins. Was ins (first_regs n start) in
    let S : State → Type 0 = λ s. Was (inputs_at old ch) s in
    let assumed = assumed_same old new inputs start whole adds K in
    let given = given_same old new inputs start whole adds port q opts own in
    let shown = asked inputs start (choices_run new ch grown of) in
    let to : IsBadRun new bad K ch → Gives old port q opts ch = λ b.
    let was : Was inputs (first_regs n start) = (assumed.0 b.0, sym given ∙ not_zero _ _ shown b.1) in
    subst S begins.start (subst I same_inputs was) in
    let from : Gives old port q opts ch → IsBadRun new bad K ch = λ x.
    let y : Was inputs (first_regs n start) = subst I (sym same_inputs) (subst S (sym begins.start) x) in
    (assumed.1 y.0, is_one _ _ shown (given ∙ y.1)) in
    (to, from)

-- ---- watched nodes

shown_same : (old new : Netlist) (inputs : ℕ → List ℕ) (start : State) (k : ℕ) (ids : List ℕ) → IsNet old
    → AddsRegs old new → AreNodes old ids
    → map (value_at new (cycle_at new inputs start k)) ids
    ≡ map (value_at old (cycle_at old inputs (first_regs (length old.regs) start) k)) ids
shown_same old new inputs start k [] whole adds own = refl
shown_same old new inputs start k (id ∷ ids) whole adds own = λ i.
    (old_run old new inputs start k whole adds).value id own.0 i
    ∷ shown_same old new inputs start k ids whole adds own.1 i

pub watched_are_same : (old new : Netlist) (k : ℕ) (ids : List ℕ) (ch : Choices) → IsNet old → AddsRegs old new
    → AreNodes old ids → values_in new k ids ch ≡ values_in old k ids ch
watched_are_same old new k ids ch whole adds own =
    let begins = begins_as old new ch adds in
    let same_inputs : inputs_at new ch ≡ inputs_at old ch = λ i j. begins.inputs j i in
    shown_same old new (inputs_at new ch) (start_of new ch) k ids whole adds own
    ∙ (λ i. map (value_at old (cycle_at old (same_inputs i) (begins.start i) k)) ids)
