-- Meaning: What an answer makes of a question, how many answers are what, and the status of a run with these counts.
-- Rules of this project.
use Rattle.std.specs.Prelude.{ℕ, ◌+◌, Bool, true, false, ◌||◌, nat_lt, if◌then◌else◌, List, [], ◌∷◌, Option, Some, None}
use Rattle.std.specs.Prelude.{count_by}
use Rattle.std.specs.List.{list_any}
use Rattle.rv_table.specs.declared.row.RowId.{RowId}
use Rattle.ck_ask.specs.declared.question.Question.{Question}
use Rattle.ck_ask.specs.declared.question.Question.TheVariants as question
use Rattle.rvf_judge.specs.declared.judged.Judged.{Judged}
use Rattle.rvf_judge.specs.declared.judged.Judged.TheVariants as judged
use Rattle.rvf_report.specs.declared.status.Status.{Status}
use Rattle.rvf_report.specs.declared.status.Status.TheVariants as s
use Rattle.rvf_checks.specs.declared.counts.Counts.{Counts}

-- no run gives what is sought
abbrev pub is_never : Judged → Bool
is_never (judged.Never texts) = true
is_never (judged.Found dump) = false
is_never (judged.Spent texts) = false

-- some run does
abbrev pub is_found : Judged → Bool
is_found (judged.Never texts) = false
is_found (judged.Found dump) = true
is_found (judged.Spent texts) = false

-- the budget is used up
abbrev pub is_spent : Judged → Bool
is_spent (judged.Never texts) = false
is_spent (judged.Found dump) = false
is_spent (judged.Spent texts) = true

-- no run meets the assumptions that a target without a row seeks
abbrev pub is_unmet : Option RowId → Judged → Bool
is_unmet None j = is_never j
is_unmet (Some row) j = false

-- The question fails: a check where some run lacks its property, a row of Zba or Zbs where some run does otherwise, a
-- target without a row where no run reaches it. A row that isn't reached fails nothing.
abbrev pub fails : Question → Judged → Bool
fails (question.Check x) j = is_found j
fails (question.Target t) j = is_unmet t.row j
fails (question.Zb z) j = is_found j

-- one of the questions fails, of those that are answered
abbrev pub any_fails : List Question → List Judged → Bool
any_fails [] js = false
any_fails (q ∷ qs) [] = false
any_fails (q ∷ qs) (j ∷ js) = fails q j || any_fails qs js

abbrev pub failures_of : List Question → List Judged → ℕ
failures_of [] js = 0
failures_of (q ∷ qs) [] = 0
failures_of (q ∷ qs) (j ∷ js) = (if fails q j then 1 else 0) + failures_of qs js

-- how many of the answers are what, and how many questions fail
abbrev pub counts_of : List Question → List Judged → Counts
counts_of qs js = record {
  never = count_by is_never js;
  found = count_by is_found js;
  spent = count_by is_spent js;
  failing = failures_of qs js;
}

-- one fails; or none fails, and the budget of one is used up; or neither
abbrev pub status_of : List Question → List Judged → Status
status_of qs js = if any_fails qs js then s.Failing else if list_any is_spent js then s.Spent else s.Passed

-- ---- one by one

abbrev pub no_counts : Counts
no_counts = record { never = 0; found = 0; spent = 0; failing = 0 }

-- with one answer more
abbrev pub with_answer : Counts → Judged → Counts
with_answer c (judged.Never texts) = record c { never = c.never + 1 }
with_answer c (judged.Found dump) = record c { found = c.found + 1 }
with_answer c (judged.Spent texts) = record c { spent = c.spent + 1 }

-- with one failure more, where the question fails
abbrev pub with_failure : Counts → Bool → Counts
with_failure c true = record c { failing = c.failing + 1 }
with_failure c false = c

-- the counts with the answer of one question more
abbrev pub counted : Question → Counts → Judged → Counts
counted q c j = with_failure (with_answer c j) (fails q j)

-- the same of a question that may be there
abbrev pub counted_at : Option Question → Counts → Judged → Counts
counted_at None c j = with_answer c j
counted_at (Some q) c j = counted q c j

-- how many answers are counted
abbrev pub places_of : Counts → ℕ
places_of c = c.never + c.found + c.spent

-- the status of a run whose answers are counted
abbrev pub status_in : Counts → Status
status_in c = if nat_lt 0 c.failing then s.Failing else if nat_lt 0 c.spent then s.Spent else s.Passed
