-- Meaning: Questions: what is sought in a run (rule of this project; properties are those of checks).
use Rattle.std.specs.Prelude.{ℕ, ◌==◌, Bool, true, false, not, ◌&&◌, List, Option, Some, None, find}
use Rattle.rv_table.specs.declared.retire.Retire.{Retire}
use Rattle.rv_table.specs.declared.retire.Opts.{Opts}
use Rattle.rv_table.specs.declared.row.RowId.{RowId}
use Rattle.rv_table.specs.Matching.{matches}
use Rattle.rv_zb.specs.Monitors.{disagrees}
use Rattle.ck_cfg.specs.declared.kind.CheckKind.{CheckKind}
use Rattle.ck_cfg.specs.declared.kind.CheckKind.TheVariants.{Insn}
use Rattle.ck_spec.specs.declared.retired.Retired.{Retired}
use Rattle.ck_spec.specs.declared.retired.Probe.{Probe}
use Rattle.ck_spec.specs.Properties.{property}
use Rattle.ck_cover.specs.declared.target.Target.{Target}
use Rattle.ck_ask.specs.declared.question.Question.{Question}
use Rattle.ck_ask.specs.declared.question.Question.TheVariants as question

-- the name of its line and of its files
abbrev pub question_name : Question → List ℕ
question_name (question.Check x) = x.name
question_name (question.Target t) = t.name
question_name (question.Zb z) = z.name

-- the kind of checks of which it has the text
abbrev pub question_kind : Question → CheckKind
question_kind (question.Check x) = x.kind
question_kind (question.Target t) = t.kind
question_kind (question.Zb z) = Insn

-- the channel that it is about
abbrev pub question_channel : Question → ℕ
question_channel (question.Check x) = x.channel
question_channel (question.Target t) = t.channel
question_channel (question.Zb z) = z.channel

-- the cycles of the runs that it is about: the first one whose retirements count, and the last one
abbrev pub question_first : Question → ℕ
question_first (question.Check x) = x.start
question_first (question.Target t) = t.cycle
question_first (question.Zb z) = z.cycle

abbrev pub question_cycle : Question → ℕ
question_cycle (question.Check x) = x.cycle
question_cycle (question.Target t) = t.cycle
question_cycle (question.Zb z) = z.cycle

-- what retired in the cycle, in the channel, if anything did
abbrev pub retired_at : ℕ → ℕ → List Retired → Option Retired
retired_at channel cycle rs = find (λ r. r.cycle == cycle && r.channel == channel) rs

-- there is a retirement, and it is such
abbrev pub is_there : (Retire → Bool) → Option Retired → Bool
is_there such None = false
is_there such (Some r) = such r.retire

-- a word of the row retires; without a row nothing need
abbrev pub is_reached : Option RowId → Option Retired → Bool
is_reached None r = true
is_reached (Some row) r = is_there (λ x. matches row x.insn) r

-- What is sought of the retirements from the first cycle to the last, and of what is probed in the last: of a check,
-- that they lack its property; of a target, that its row retires in its cycle and channel; of a row of Zba or Zbs, that
-- a word of it does and isn't what the row does.
abbrev pub sought : Question → Opts → List Retired → Probe → Bool
sought (question.Check x) opts rs probe = not (property x rs probe opts)
sought (question.Target t) opts rs probe = is_reached t.row (retired_at t.channel t.cycle rs)
sought (question.Zb z) opts rs probe = is_there (disagrees z.row) (retired_at z.channel z.cycle rs)
