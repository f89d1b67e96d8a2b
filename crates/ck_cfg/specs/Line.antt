-- Meaning: The lines of a configuration. What ends a line and what parts its words is what it is in all texts
-- (`fv_lines`). Rule of this project.
use Rattle.std.specs.Prelude.{
  ℕ,
  Bool,
  ◌||◌,
  ◌==◌,
  if◌then◌else◌,
  List,
  [],
  ◌∷◌,
  ◌++◌,
  Option,
  Some,
  None,
  option_map,
}
use Rattle.std.specs.List.{list_all}
use Rattle.fv_lines.specs.Words.{is_nil, is_blank, begins_with, lines, next_place}

-- a line that counts: its number, from 1, and its text
pub record Line : Type 0 where
  pub number : ℕ
  pub text : List ℕ

-- without the blanks at its front
abbrev pub front_trimmed : List ℕ → List ℕ
front_trimmed [] = []
front_trimmed (b ∷ bs) = if is_blank b then front_trimmed bs else b ∷ bs

-- without the blanks at its end
abbrev pub end_trimmed : List ℕ → List ℕ
end_trimmed [] = []
end_trimmed (b ∷ bs) = if list_all is_blank (b ∷ bs) then [] else b ∷ end_trimmed bs

-- without the blanks at both ends
abbrev pub trimmed : List ℕ → List ℕ
trimmed text = end_trimmed (front_trimmed text)

-- an empty line, or a comment: it begins with `#`
abbrev pub is_dropped : List ℕ → Bool
is_dropped text = is_nil text || begins_with 35 text

-- the line, if it counts
abbrev pub counted : ℕ → List ℕ → List Line
counted number text = if is_dropped text then [] else record { number = number; text = text } ∷ []

-- the lines that count, where the first has this number
abbrev pub counted_from : ℕ → List (List ℕ) → List Line
counted_from number [] = []
counted_from number (l ∷ ls) = counted number (trimmed l) ++ counted_from (next_place number) ls

-- the lines of a text that count
abbrev pub counted_lines : List ℕ → List Line
counted_lines bytes = counted_from 1 (lines bytes)

-- what stands before a `]` at the end
abbrev pub before_bracket : List ℕ → Option (List ℕ)
before_bracket [] = None
before_bracket (b ∷ []) = if b == 93 then Some [] else None
before_bracket (b ∷ c ∷ cs) = option_map (λ name. b ∷ name) (before_bracket (c ∷ cs))

-- a line `[NAME]` begins the section of this name, in which all between the brackets counts
abbrev pub section_begun : List ℕ → Option (List ℕ)
section_begun [] = None
section_begun (b ∷ bs) = if b == 91 then before_bracket bs else None
