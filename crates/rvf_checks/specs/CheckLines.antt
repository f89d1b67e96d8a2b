-- Meaning: The lines of checks and of targets, each ended by a line feed. Rules of this project.
use Rattle.std.specs.Prelude.{ℕ, List, [], ◌∷◌, ◌++◌, codes, decimal}
use Rattle.rvf_checks.specs.declared.counts.Counts.{Counts}

-- what stands in front, and a name
abbrev pub named_line : List ℕ → List ℕ → List ℕ
named_line front name = front ++ (name ++ (10 ∷ []))

abbrev pub pass_line : List ℕ → List ℕ
pass_line name = named_line (codes "pass ") name

abbrev pub fail_line : List ℕ → List ℕ
fail_line name = named_line (codes "fail ") name

-- a run reaches the target, or none does
abbrev pub reached_line : List ℕ → List ℕ
reached_line name = named_line (codes "reached ") name

abbrev pub unreached_line : List ℕ → List ℕ
unreached_line name = named_line (codes "unreached ") name

-- the number is the budget
abbrev pub spent_line : List ℕ → ℕ → List ℕ
spent_line name budget = named_line (codes "spent " ++ (name ++ (32 ∷ []))) (decimal budget)

-- a check of a row has a text with other arithmetic operations
abbrev pub note_line : List ℕ
note_line = codes "note altops" ++ (10 ∷ [])

-- a depth line of this kind is skipped
abbrev pub skip_line : List ℕ → List ℕ
skip_line kind = named_line (codes "skip ") kind

-- a word and a number
abbrev pub count_text : List ℕ → ℕ → List ℕ
count_text word count = word ++ decimal count

-- how many checks came to what
abbrev pub counts_text : Counts → List ℕ
counts_text c =
    count_text (codes "pass ") c.never ++ (count_text (codes " fail ") c.found ++ count_text (codes " spent ") c.spent)

-- the same as the last line of `run` and of `zb`, with how many depth lines are skipped
abbrev pub total_line : Counts → ℕ → List ℕ
total_line c skipped = codes "total " ++ (counts_text c ++ (count_text (codes " skip ") skipped ++ (10 ∷ [])))

-- and as the line of `bench`, with the number of words of its design
abbrev pub bench_line : ℕ → Counts → List ℕ
bench_line size c = count_text (codes "bench ") size ++ (32 ∷ (counts_text c ++ (10 ∷ [])))

-- how many targets came to what
abbrev pub targets_text : Counts → List ℕ
targets_text c =
    count_text (codes "reached ") c.found
    ++ (count_text (codes " unreached ") c.never ++ count_text (codes " spent ") c.spent)

-- the same as the last line of `cover`
abbrev pub targets_line : Counts → List ℕ
targets_line c = codes "total " ++ (targets_text c ++ (10 ∷ []))
