-- Meaning: The lines of a text and the words of a line, for clause files, proofs and configurations. What ends a line
-- and what parts words is a rule of this project.
use Rattle.std.specs.Prelude.{
  ℕ,
  ◌+◌,
  ◌-◌,
  ◌^◌,
  min,
  Bool,
  true,
  false,
  not,
  ◌&&◌,
  ◌||◌,
  if◌then◌else◌,
  ◌==◌,
  List,
}
use Rattle.std.specs.Prelude.{[], ◌∷◌, drop}

-- there is none
abbrev pub is_nil : {X : Type 0} → List X → Bool
is_nil [] = true
is_nil (x ∷ xs) = false

abbrev pub begins_with : ℕ → List ℕ → Bool
begins_with byte [] = false
begins_with byte (b ∷ bs) = b == byte

-- the byte before the first of the lists
abbrev pub joined : ℕ → List (List ℕ) → List (List ℕ)
joined b [] = (b ∷ []) ∷ []
joined b (l ∷ ls) = (b ∷ l) ∷ ls

-- the lines: each ends with LF or with the text, and a CR directly before the LF is left out
abbrev pub lines : List ℕ → List (List ℕ)
lines [] = []
lines (b ∷ bs) =
    if b == 10 then [] ∷ lines bs
    else if b == 13 && begins_with 10 bs then lines bs
    else joined b (lines bs)

-- lines count from 1, and the count stands still at 2^32 - 1
abbrev pub next_place : ℕ → ℕ
next_place line = min (line + 1) (2 ^ 32 - 1)

-- a space or a tab
abbrev pub is_blank : ℕ → Bool
is_blank b = b == 32 || b == 9

-- the first byte is there and no blank
abbrev pub begins_word : List ℕ → Bool
begins_word [] = false
begins_word (b ∷ bs) = not (is_blank b)

-- the words of a line, parted by blanks
abbrev pub words : List ℕ → List (List ℕ)
words [] = []
words (b ∷ bs) =
    if is_blank b then words bs
    else if begins_word bs then joined b (words bs)
    else (b ∷ []) ∷ words bs

-- a line stops here: the text ends, or an end of line begins
abbrev pub stops : List ℕ → Bool
stops [] = true
stops (b ∷ bs) = b == 10 || (b == 13 && begins_with 10 bs)

-- what stands behind that end of line
abbrev pub behind_end : List ℕ → List ℕ
behind_end [] = []
behind_end (b ∷ bs) =
    if b == 10 then bs
    else if b == 13 && begins_with 10 bs then drop 1 bs
    else b ∷ bs

abbrev pub begins_blank : List ℕ → Bool
begins_blank [] = false
begins_blank (b ∷ bs) = is_blank b
