-- Between functions: Parts of a text before and behind a mark, and the lines that have an end. Rule of this project.
use Rattle.std.specs.Prelude.{ℕ, ◌≡◌, true, not, if◌then◌else◌, ◌==◌, List, [], ◌∷◌, ◌++◌}
use Rattle.std.specs.List.{list_all}

-- a byte that isn't among these
abbrev pub HasNo : ℕ → List ℕ → Type 0
HasNo mark bytes = list_all (λ b. not (b == mark)) bytes ≡ true

-- what stands before the first such byte, and behind it
abbrev pub IsCut : ℕ → List ℕ → List ℕ → List ℕ → Type 0
IsCut mark bytes front rest = (bytes ≡ front ++ mark ∷ rest) × HasNo mark front

-- the bytes don't begin with this front
abbrev pub BeginsOtherwise : List ℕ → List ℕ → Type 0
BeginsOtherwise front bytes = (rest : List ℕ) → bytes ≡ front ++ rest → ⊥

-- the bytes don't end with this end
abbrev pub EndsOtherwise : List ℕ → List ℕ → Type 0
EndsOtherwise end bytes = (start : List ℕ) → bytes ≡ start ++ end → ⊥

-- the byte before the first of the lines; without an LF behind it, it is in no line
abbrev pub with_first : ℕ → List (List ℕ) → List (List ℕ)
with_first b [] = []
with_first b (l ∷ ls) = (b ∷ l) ∷ ls

-- the lines of a text that end with LF, each without it; what stands behind the last LF is no line
abbrev pub whole_lines : List ℕ → List (List ℕ)
whole_lines [] = []
whole_lines (b ∷ bs) = if b == 10 then [] ∷ whole_lines bs else with_first b (whole_lines bs)
