-- Meaning: How the line of a refusal is put together: words parted by blanks, places, and values joined by commas.
-- Rules of this project.
use Rattle.std.specs.Prelude.{ℕ, List, [], ◌∷◌, ◌++◌, Option, Some, None, codes, decimal, slice_index_or}
use Rattle.fv_text.specs.declared.pos.Pos.{Pos}

-- what a refusal says: its number, its place where it has one, and its other values
pub record Says : Type 0 where
  pub number : ℕ
  pub place : Option Pos
  pub values : List (List ℕ)

abbrev pub says : ℕ → Option Pos → List (List ℕ) → Says
says number place values = record { number = number; place = place; values = values }

-- a word, and a blank behind it
abbrev pub spaced : List ℕ → List ℕ → List ℕ
spaced word rest = word ++ (32 ∷ rest)

-- the last word, and the end of the line
abbrev pub ended : List ℕ → List ℕ
ended word = word ++ (10 ∷ [])

-- `FILE:LINE:COL`, by the names of the files
abbrev pub place_text : List (List ℕ) → Pos → List ℕ
place_text names at =
    slice_index_or names at.file [] ++ (58 ∷ (decimal at.line ++ (58 ∷ decimal at.col)))

-- `-` where there is none
abbrev pub optional_place : List (List ℕ) → Option Pos → List ℕ
optional_place names None = codes "-"
optional_place names (Some at) = place_text names at

-- values behind a first one, each behind a comma
abbrev pub more_values : List (List ℕ) → List ℕ
more_values [] = []
more_values (value ∷ values) = 44 ∷ (value ++ more_values values)

-- `-` where there are none
abbrev pub detail : List (List ℕ) → List ℕ
detail [] = codes "-"
detail (value ∷ values) = value ++ more_values values

-- `source PART C PLACE DETAIL`
abbrev pub source_line : List (List ℕ) → List ℕ → Says → List ℕ
source_line names part x =
    spaced (codes "source") (spaced part (spaced (decimal x.number)
    (spaced (optional_place names x.place) (ended (detail x.values)))))
