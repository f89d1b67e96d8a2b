-- Meaning: Lines and words of the ASCII format AIGER (Biere, 2007, section 2). That an LF alone ends a line, that the
-- last line may lack it, and that one blank parts two words, are rules of this project.
use Rattle.std.specs.Prelude.{ℕ, ◌+◌, ◌*◌, if◌then◌else◌, ◌==◌, nat_le, List, [], ◌∷◌, ◌++◌, length, Option, Some, None}
use Rattle.fv_lines.specs.Numbers.{natural_of, number_up_to}
use Rattle.fv_lines.specs.Words.{joined}

-- the lines: each ends with LF or with the text
abbrev pub lines : List ℕ → List (List ℕ)
lines [] = []
lines (b ∷ bs) = if b == 10 then [] ∷ lines bs else joined b (lines bs)

-- the words: what stands before the first blank, between two, and behind the last one
abbrev pub words : List ℕ → List (List ℕ)
words [] = [] ∷ []
words (b ∷ bs) = if b == 32 then [] ∷ words bs else joined b (words bs)

-- a number of a header: one digit to twenty
abbrev pub short : List ℕ → Option ℕ
short word = if nat_le (length word) 20 then natural_of word else None

-- a literal of one of so many variables, or 0 or 1
abbrev pub literal_of : ℕ → List ℕ → Option ℕ
literal_of most word = number_up_to (2 * most + 1) word
