-- Meaning: Which runs of a design give what a question seeks (rule of this project).
use Rattle.std.specs.Prelude.{◌≡◌, ◌↔◌, ℕ, ◌+◌, ◌-◌, Bool, true, List, Some}
use Rattle.std.specs.List.{AllByRecursion}
use Rattle.rv_table.specs.declared.retire.Opts.{Opts}
use Rattle.vl_size.specs.Size.{Values}
use Rattle.vl_mean.specs.Parts.{Part}
use Rattle.vl_mean.specs.Runs.{IsAssumed, IsRun}
use Rattle.rvfi_port.specs.declared.port.Wants.{Wants}
use Rattle.ck_cfg.specs.declared.check.Check.{Check}
use Rattle.ck_cfg.specs.declared.kind.CheckKind.{CheckKind}
use Rattle.ck_cfg.specs.Kind.{is_kind}
use Rattle.ck_cover.specs.Targets.{greatest, any_target}
use Rattle.ck_ask.specs.Questions.{question_cycle, question_first, sought}
use Rattle.ck_ask.specs.declared.question.Question.{Question}
use Rattle.ck_ask.specs.declared.question.Question.TheVariants as question
use Rattle.ck_design.specs.Retirements.{IsViolating, probe_in, retirements, values_at}

-- the run gives what is sought: over its retirements from the question's first cycle to its last, and what it is probed
-- by in the last
abbrev pub given_over : List Values → ℕ → Wants → Question → Opts → Bool
given_over run channels wants q opts =
    sought q opts (retirements run channels (question_first q) (question_cycle q - question_first q + 1))
    (probe_in (values_at run (question_cycle q)) wants)

-- a run of the design up to the question's last cycle meets its assumptions and gives what is sought
pub record IsFound (ps : List Part) (channels : ℕ) (wants : Wants) (q : Question) (opts : Opts) (run : List Values)
    : Type 0 where
  pub is_run : IsRun ps (question_cycle q) run
  pub assumed : IsAssumed ps run
  pub given : given_over run channels wants q opts ≡ true

-- the runs that are found of a check are those that violate it
abbrev pub FindingsOfChecksViolate : Type 0
FindingsOfChecksViolate =
    (ps : List Part) (channels : ℕ) (wants : Wants) (check : Check) (opts : Opts) (run : List Values)
    → IsFound ps channels wants (question.Check check) opts run ↔ IsViolating ps channels wants check opts run

-- some run of the design up to this cycle meets its assumptions
pub record HasRunUpTo (ps : List Part) (cycle : ℕ) : Type 0 where
  pub run : List Values
  pub is_run : IsRun ps cycle run
  pub assumed : IsAssumed ps run

-- where a run reaches the target of a kind's assumptions, each check of the kind has such a run up to its cycle
abbrev pub ReachedKindsHaveRuns : Type 0
ReachedKindsHaveRuns =
    (ps : List Part) (channels : ℕ) (wants : Wants) (opts : Opts) (kind : CheckKind) (checks : List Check) (cycle : ℕ)
    (run : List Values) → greatest kind checks ≡ Some cycle
    → IsFound ps channels wants (question.Target (any_target kind cycle)) opts run
    → AllByRecursion (λ x. is_kind x.kind kind ≡ true → HasRunUpTo ps x.cycle) checks
