-- Between functions: What the node of a question shows, and when there may be one (rule of this project).
use Rattle.std.specs.Prelude.{◌≡◌, ℕ, ◌+◌, ◌-◌, ◌<◌, ◌≤◌, Bool, false, ◌&&◌, List, Option, Some, None}
use Rattle.fv_bits.specs.Bits.{bit}
use Rattle.rv_table.specs.declared.retire.Opts.{Opts}
use Rattle.wn_net.specs.Value.{Given}
use Rattle.wn_net.specs.Net.{Netlist, value_at}
use Rattle.wn_net.specs.Changes.{AddsNodes}
use Rattle.wn_net.specs.declared.parts.State.{State}
use Rattle.wn_run.specs.Runs.{cycle_at, IsRun}
use Rattle.rvfi_port.specs.declared.port.Channel.{Channel}
use Rattle.rvfi_port.specs.declared.port.Port.{Port}
use Rattle.rvfi_port.specs.Channels.{retires, retire_at}
use Rattle.rv_zb.specs.declared.row.ZbRow.{ZbRow}
use Rattle.rv_zb.specs.Monitors.{disagrees}
use Rattle.ck_cfg.specs.Lawful.{IsCheck}
use Rattle.ck_cover.specs.Laws.{IsTarget}
use Rattle.ck_spec.specs.declared.retired.Retired.{Retired}
use Rattle.ck_gen.specs.Monitors.{HasProbe, NeedsNoRegisters, is_of_one_cycle}
use Rattle.ck_gen.specs.Retirements.{probe_at, retirements}
use Rattle.ck_ask.specs.Questions.{question_cycle, question_first, sought}
use Rattle.ck_ask.specs.declared.question.Question.{Question}
use Rattle.ck_ask.specs.declared.zb_check.ZbCheck.{ZbCheck}
use Rattle.ck_ask.specs.declared.question.Question.TheVariants as question

-- a check of a row of Zba or Zbs, of one of so many channels
pub record IsZbCheck (channels : ℕ) (z : ZbCheck) : Type 0 where
  pub channel : z.channel < channels
  pub most : z.cycle ≤ 100

-- a question that may be asked of one of so many channels
abbrev pub IsQuestion : ℕ → Question → Type 0
IsQuestion channels (question.Check x) = IsCheck channels x
IsQuestion channels (question.Target t) = IsTarget channels t
IsQuestion channels (question.Zb z) = IsZbCheck channels z

-- the port has the probe that it asks for
abbrev pub HasItsProbe : Port → Question → Type 0
HasItsProbe port (question.Check x) = HasProbe port x.kind
HasItsProbe port (question.Target t) = Unit {0}
HasItsProbe port (question.Zb z) = Unit {0}

-- the retirements that it is asked of, where a run has these numbers in each cycle
abbrev pub retirements_asked : Netlist → (ℕ → Given) → Port → Question → List Retired
retirements_asked net run port q =
    retirements net run port.channels (question_first q) (question_cycle q - question_first q + 1)

-- the run that has these numbers in each cycle gives what is sought
abbrev pub given_in : Netlist → (ℕ → Given) → Port → Question → Opts → Bool
given_in net run port q opts =
    sought q opts (retirements_asked net run port q) (probe_at net (run (question_cycle q)) port)

-- In the question's cycle of each run of the net the node is 1 exactly where the run gives what is sought.
abbrev pub IsAsked : Netlist → Port → Question → Opts → ℕ → Type 0
IsAsked net port q opts id =
    (inputs : ℕ → List ℕ) (start : State) → IsRun net inputs start
    → value_at net (cycle_at net inputs start (question_cycle q)) id
    ≡ bit (given_in net (cycle_at net inputs start) port q opts)

-- a check of one cycle needs no registers, nor do targets and rows of Zba and Zbs
abbrev pub NeedsNone : Netlist → Netlist → Port → Question → Opts → ℕ → Type 0
NeedsNone old new port (question.Check x) opts id =
    NeedsNoRegisters (is_of_one_cycle x.kind) old new port x opts id
NeedsNone old new port (question.Target t) opts id = AddsNodes old new
NeedsNone old new port (question.Zb z) opts id = AddsNodes old new

-- the channel, where it is there, retires a word of the row and isn't what the row does
abbrev pub differs_at : Netlist → Given → Option Channel → ZbRow → Bool
differs_at net g None row = false
differs_at net g (Some c) row = retires net g c && disagrees row (retire_at net g c)
