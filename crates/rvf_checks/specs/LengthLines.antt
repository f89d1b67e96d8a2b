-- Meaning: The lines of checks in runs of every length, each ended by a line feed. Rules of this project.
use Rattle.std.specs.Prelude.{ℕ, List, [], ◌∷◌, ◌++◌, codes, decimal}
use Rattle.rvf_checks.specs.declared.length_counts.LengthCounts.{LengthCounts}
use Rattle.rvf_checks.specs.CheckLines.{count_text, named_line}

-- no run lacks the property in the cycles of the base, and a step run is there
abbrev pub open_line : List ℕ → List ℕ
open_line name = named_line (codes "open ") name

-- neither is there; the number is that of the steps
abbrev pub proved_line : List ℕ → ℕ → List ℕ
proved_line name steps = named_line (codes "proved " ++ (name ++ (32 ∷ []))) (decimal steps)

-- how many checks came to what; those that are skipped count with the depth lines that are
abbrev pub lengths_text : LengthCounts → ℕ → List ℕ
lengths_text c skipped =
    count_text (codes "proved ") c.proved
    ++ (count_text (codes " fail ") c.failing
    ++ (count_text (codes " open ") c.opened
    ++ (count_text (codes " spent ") c.spent ++ count_text (codes " skip ") skipped)))

-- the same as the last line of `induct`
abbrev pub lengths_line : LengthCounts → ℕ → List ℕ
lengths_line c skipped = codes "total " ++ (lengths_text c skipped ++ (10 ∷ []))
