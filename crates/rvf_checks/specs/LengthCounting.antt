-- Meaning: How many checks come to what by induction, and the status of a run with these counts. Rules of this project.
use Rattle.std.specs.Prelude.{ℕ, ◌+◌, Bool, true, false, ◌||◌, nat_lt, if◌then◌else◌, List}
use Rattle.std.specs.Prelude.{count_by}
use Rattle.std.specs.List.{list_any}
use Rattle.rvf_judge.specs.declared.induction.Induction.{Induction}
use Rattle.rvf_judge.specs.declared.induction.Induction.TheVariants as induction
use Rattle.rvf_report.specs.declared.status.Status.{Status}
use Rattle.rvf_report.specs.declared.status.Status.TheVariants as s
use Rattle.rvf_checks.specs.declared.length_counts.LengthCounts.{LengthCounts}

abbrev pub is_proved : Induction → Bool
is_proved (induction.Proved base step) = true
is_proved made = false

abbrev pub is_failing : Induction → Bool
is_failing (induction.Fails dump) = true
is_failing made = false

abbrev pub is_open : Induction → Bool
is_open (induction.Open dump) = true
is_open made = false

-- for the base, or for the step
abbrev pub is_spent : Induction → Bool
is_spent (induction.SpentBase texts) = true
is_spent (induction.SpentStep texts) = true
is_spent made = false

abbrev pub is_skipped : Induction → Bool
is_skipped induction.Skipped = true
is_skipped made = false

-- how many of the answers are what
abbrev pub lengths_of : List Induction → LengthCounts
lengths_of made = record {
  proved = count_by is_proved made;
  failing = count_by is_failing made;
  opened = count_by is_open made;
  spent = count_by is_spent made;
  skipped = count_by is_skipped made;
}

-- one fails; or none fails, and one is open or its budget used up; or neither
abbrev pub length_status_of : List Induction → Status
length_status_of made =
    if list_any is_failing made then s.Failing
    else if list_any (λ x. is_open x || is_spent x) made then s.Spent else s.Passed

-- ---- one by one

abbrev pub no_lengths : LengthCounts
no_lengths = record { proved = 0; failing = 0; opened = 0; spent = 0; skipped = 0 }

-- with one answer more
abbrev pub with_length : LengthCounts → Induction → LengthCounts
with_length c induction.Skipped = record c { skipped = c.skipped + 1 }
with_length c (induction.Fails dump) = record c { failing = c.failing + 1 }
with_length c (induction.Open dump) = record c { opened = c.opened + 1 }
with_length c (induction.Proved base step) = record c { proved = c.proved + 1 }
with_length c (induction.SpentBase texts) = record c { spent = c.spent + 1 }
with_length c (induction.SpentStep texts) = record c { spent = c.spent + 1 }

-- how many answers are counted
abbrev pub length_places : LengthCounts → ℕ
length_places c = c.proved + c.failing + c.opened + c.spent + c.skipped

-- the status of a run whose answers are counted
abbrev pub length_status_in : LengthCounts → Status
length_status_in c =
    if nat_lt 0 c.failing then s.Failing
    else if nat_lt 0 c.opened || nat_lt 0 c.spent then s.Spent else s.Passed
