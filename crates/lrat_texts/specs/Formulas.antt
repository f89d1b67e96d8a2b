-- Between functions: What a clause file says (DIMACS): comments, a header, and the numbers of the clauses, each clause
-- ended by 0. Where comments and blank lines may stand, and how large a header's numbers may be, are rules of this
-- project.
use Rattle.std.specs.Prelude.{
  ◌≡◌,
  ℕ,
  ◌≤◌,
  Bool,
  true,
  not,
  ◌||◌,
  List,
  [],
  ◌∷◌,
  ◌++◌,
  length,
  filter,
  flat_map,
  codes,
}
use Rattle.std.specs.Prelude.{ℤ, pos}
use Rattle.std.specs.List.{AllZip, list_all}
use Rattle.fv_lines.specs.Words.{is_nil, lines, words}
use Rattle.cnf_form.specs.Cnf.{Cnf, AreClauses}
use Rattle.cnf_text.specs.Dimacs.{is_comment}
use Rattle.lrat_texts.specs.Numerals.{SaysNumber, SaysInteger}

-- the words of a header, `p cnf VARIABLES CLAUSES`, each number at most a hundred million
pub record SaysHeader (ws : List (List ℕ)) (vars count : ℕ) : Type 0 where
  pub vars_word : List ℕ
  pub count_word : List ℕ
  pub words_are : ws ≡ codes "p" ∷ codes "cnf" ∷ vars_word ∷ count_word ∷ []
  pub vars_are : SaysNumber vars_word vars
  pub count_is : SaysNumber count_word count
  pub vars_fit : vars ≤ 100000000
  pub count_fits : count ≤ 100000000

-- a blank line or a comment
abbrev pub is_silent : List ℕ → Bool
is_silent line = is_nil (words line) || is_comment (words line)

-- the words of lines, comments aside
abbrev pub said_words : List (List ℕ) → List (List ℕ)
said_words ls = flat_map words (filter (λ line. not (is_comment (words line))) ls)

-- the literals of a clause, and the 0 behind them
abbrev pub with_end : List ℤ → List ℤ
with_end clause = clause ++ pos 0 ∷ []

-- lines say a formula: a header with its counts, and behind it the numbers of its clauses, in order
pub record LinesSay (ls : List (List ℕ)) (formula : Cnf) : Type 0 where
  pub front : List (List ℕ)
  pub header : List ℕ
  pub behind : List (List ℕ)
  pub lines_are : ls ≡ front ++ header ∷ behind
  pub front_is_silent : list_all is_silent front ≡ true
  pub header_says : SaysHeader (words header) formula.vars (length formula.clauses)
  pub numbers : AllZip SaysInteger (said_words behind) (flat_map with_end formula.clauses)
  pub literals : AreClauses formula.vars formula.clauses

-- a text says the formula that its lines say
abbrev pub SaysFormula : List ℕ → Cnf → Type 0
SaysFormula bytes formula = LinesSay (lines bytes) formula
