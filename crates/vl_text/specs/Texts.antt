-- Meaning: Texts that are read as one: each is lexed by itself, and their tokens are laid end to end. Rules of this
-- project.
use Rattle.std.specs.Prelude.{
  ℕ,
  Bool,
  false,
  ◌==◌,
  nat_lt,
  List,
  [],
  ◌∷◌,
  ◌++◌,
  map,
  Option,
  None,
  Some,
  Result,
  Ok,
}
use Rattle.std.specs.Prelude.{Err, if◌then◌else◌}
use Rattle.fv_text.specs.declared.pos.Pos.{Pos}
use Rattle.fv_text.specs.declared.token.Token.{Token}
use Rattle.vl_token.specs.Fault as lexer
use Rattle.vl_token.specs.FaultPlace.{fault_place}
use Rattle.vl_token.specs.Tokens.{AreTokens}
use Rattle.vl_token.specs.declared.fault.LexFault.{LexFault}
use Rattle.vl_prep.specs.Refusals.{is_place, is_sooner}
use Rattle.vl_text.specs.declared.lexing.Lexed.{Lexed}
use Rattle.vl_text.specs.declared.text.Assumption.{Assumption}
use Rattle.vl_text.specs.declared.text.SourceText.{SourceText}

-- a text: the number of its file, that of its first line, and its bytes
pub record Text : Type 0 where
  pub file : ℕ
  pub line : ℕ
  pub bytes : List ℕ

-- the texts and lines of assumptions that a call was given; these are lines of the configuration, which is file 0
abbrev pub text_seen : SourceText → Text
text_seen x = record { file = x.file; line = x.line; bytes = x.bytes.now }

abbrev pub texts_seen : List SourceText → List Text
texts_seen xs = map text_seen xs

abbrev pub line_seen : Assumption → Text
line_seen x = record { file = 0; line = x.line; bytes = x.expression.now }

abbrev pub lines_seen : List Assumption → List Text
lines_seen xs = map line_seen xs

-- what is lexed: a line of the configuration as if a line's end stood behind it
abbrev pub lexed_bytes : Text → List ℕ
lexed_bytes x = if x.file == 0 then x.bytes ++ 10 ∷ [] else x.bytes

abbrev pub Lexing : Type 0
Lexing = Result (List Token) LexFault

-- what the lexer makes of a text by itself: its tokens, or its fault
abbrev pub IsLexed : Text → Lexing → Type 0
IsLexed x (Ok ts) = AreTokens x.file x.line (lexed_bytes x) ts
IsLexed x (Err fault) = lexer.Refuses fault x.file x.line (lexed_bytes x)

-- and of several texts, one by one
abbrev pub AreLexed : List Text → List Lexing → Type 0
AreLexed [] [] = Unit {0}
AreLexed [] (r ∷ rs) = ⊥
AreLexed (x ∷ xs) [] = ⊥
AreLexed (x ∷ xs) (r ∷ rs) = IsLexed x r × AreLexed xs rs

abbrev pub comes_first : Option Pos → ℕ → Option Pos → ℕ → Bool
comes_first (Some p) m (Some q) n = if is_place p q then nat_lt m n else is_sooner p q
comes_first p m q n = false

-- the fault is answered where the other is there too: the one at the earlier place, by file, line and column, and at
-- one place the one with the lower number
abbrev pub is_before : LexFault → LexFault → Bool
is_before f g = comes_first (fault_place f) (lexer.number_of f) (fault_place g) (lexer.number_of g)

-- of what is answered so far, and one more fault
abbrev pub least : Option LexFault → LexFault → LexFault
least None f = f
least (Some g) f = if is_before f g then f else g

-- behind the texts so far one more
abbrev pub with_lexing : Lexed → Lexing → Lexed
with_lexing so_far (Ok ts) = record { tokens = so_far.tokens ++ ts; fault = so_far.fault }
with_lexing so_far (Err f) = record { tokens = so_far.tokens; fault = Some (least so_far.fault f) }

abbrev pub laid_behind : Lexed → List Lexing → Lexed
laid_behind so_far [] = so_far
laid_behind so_far (r ∷ rs) = laid_behind (with_lexing so_far r) rs

abbrev pub nothing_lexed : Lexed
nothing_lexed = record { tokens = []; fault = None }
