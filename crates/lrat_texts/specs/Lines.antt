-- Between functions: The lines of a text and the words of a line, by how they make it up. What ends a line and what
-- parts words is a rule of this project.
use Rattle.std.specs.Prelude.{◌≡◌, ℕ, ◌<◌, true, false, not, List, [], ◌∷◌, ◌++◌, length}
use Rattle.std.specs.List.{list_all}
use Rattle.fv_lines.specs.Cuts.{HasNo, EndsOtherwise}
use Rattle.fv_lines.specs.Words.{is_blank, begins_word}

-- the line stands first: it ends with LF, with CR LF, or with the text
pub data IsEnded (bytes line rest : List ℕ) : Type 0 where
  by_lf : bytes ≡ line ++ 10 ∷ rest → EndsOtherwise (13 ∷ []) line → IsEnded bytes line rest
  by_cr_lf : bytes ≡ line ++ 13 ∷ 10 ∷ rest → IsEnded bytes line rest
  by_the_text : bytes ≡ line → 0 < length line → rest ≡ [] → IsEnded bytes line rest

-- the text is made up of these lines and their ends; no line has an LF
abbrev pub AreLines : List ℕ → List (List ℕ) → Type 0
AreLines bytes [] = bytes ≡ []
AreLines bytes (line ∷ ls) = (rest : List ℕ) × HasNo 10 line × IsEnded bytes line rest × AreLines rest ls

-- the word stands first, blanks aside, and goes no further: a blank, or no byte at all, stands behind it
pub record IsFirst (line word rest : List ℕ) : Type 0 where
  pub blanks : List ℕ
  pub line_is : line ≡ blanks ++ (word ++ rest)
  pub are_blank : list_all is_blank blanks ≡ true
  pub some : 0 < length word
  pub no_blank : list_all (λ b. not (is_blank b)) word ≡ true
  pub whole : begins_word rest ≡ false

-- the line is made up of these words and of blanks
abbrev pub AreWords : List ℕ → List (List ℕ) → Type 0
AreWords line [] = list_all is_blank line ≡ true
AreWords line (word ∷ ws) = (rest : List ℕ) × IsFirst line word rest × AreWords rest ws
