-- Meaning: What texts come to: their tree and the macros at their end, or the first part that refuses them. Rules of
-- this project.
use Rattle.std.specs.Prelude.{◌≡◌, List, Option, None, Some, Result, Ok, Err}
use Rattle.std.specs.Global.{Vec}
use Rattle.fv_text.specs.declared.token.Token.{Token}
use Rattle.vl_token.specs.declared.fault.LexFault.{LexFault}
use Rattle.vl_prep.specs.Macros.{Held, held}
use Rattle.vl_prep.specs.Prep.{Outcome, preprocessed}
use Rattle.vl_prep.specs.declared.fault.PrepFault.{PrepFault}
use Rattle.vl_prep.specs.declared.macros.Macros.{Macros}
use Rattle.vl_tree.specs.declared.source.Source.{Source}
use Rattle.vl_parse.specs.Refusals.{IsTreeOf, IsShallow, IsFaultOf}
use Rattle.vl_parse.specs.declared.fault.ParseFault.{ParseFault}
use Rattle.vl_parse.specs.declared.fault.ParseFault.TheVariants as parse
use Rattle.vl_text.specs.Assumptions.{with_assumptions}
use Rattle.vl_text.specs.Predefined.{ArePredefinedFor}
use Rattle.vl_text.specs.Texts.{Text, Lexing, AreLexed, nothing_lexed, laid_behind}
use Rattle.vl_text.specs.declared.fault.TextFault.{TextFault}
use Rattle.vl_text.specs.declared.fault.TextFault.TheVariants.{Lex, Prep, Parse, Memory}
use Rattle.vl_text.specs.declared.lexing.Lexed.{Lexed}
use Rattle.vl_text.specs.declared.macros.Core.{Core}

-- what is there in the end: the tree of all texts, and the macros that are defined behind them
pub record Reading : Type 0 where
  pub tree : Source
  pub macros : Held

abbrev pub tokens_or : Option LexFault → List Token → Result (List Token) TextFault
tokens_or None tokens = Ok tokens
tokens_or (Some fault) tokens = Err (Lex fault)

-- the tokens of the texts, one behind the other, and behind them those of the lines of assumptions; or the fault of the
-- lexer that is answered
pub record AreLaid (texts lines : List Text) (r : Result (List Token) TextFault) : Type 0 where
  pub of_texts : List Lexing
  pub texts_lexed : AreLexed texts of_texts
  pub of_lines : List Lexing
  pub lines_lexed : AreLexed lines of_lines
  pub all : Lexed
  pub laid : all ≡ laid_behind (laid_behind nothing_lexed of_texts) of_lines
  pub comes : r ≡ tokens_or all.fault all.tokens

abbrev pub outcome_or_fault : Result Outcome PrepFault → Result Outcome TextFault
outcome_or_fault (Ok done) = Ok done
outcome_or_fault (Err fault) = Err (Prep fault)

-- what comes of the tokens, as one list, by the macros that are predefined for the core; or the preprocessor's fault
pub record ArePrepared (core : Core) (tokens : List Token) (r : Result Outcome TextFault) : Type 0 where
  pub macros : Held
  pub predefined : ArePredefinedFor core macros
  pub comes : r ≡ outcome_or_fault (preprocessed macros tokens)

-- the tree that the tokens spell, with no more than 256 constructs open at a token
pub record IsTree (tokens : List Token) (tree : Source) : Type 0 where
  pub tree_of : IsTreeOf tokens tree
  pub shallow : IsShallow tree

-- the parser's fault that the tokens have
abbrev pub IsMisparsed : List Token → ParseFault → Type 0
IsMisparsed tokens parse.Memory = ⊥
IsMisparsed tokens fault = IsFaultOf tokens fault

abbrev pub AreParsed : List Token → Result Source TextFault → Type 0
AreParsed tokens (Ok tree) = IsTree tokens tree
AreParsed tokens (Err (Parse fault)) = IsMisparsed tokens fault
AreParsed tokens (Err fault) = ⊥

abbrev pub with_macros : Held → Result Source TextFault → Result Reading TextFault
with_macros macros (Ok tree) = Ok (record { tree = tree; macros = macros })
with_macros macros (Err fault) = Err fault

-- the tree of the preprocessed tokens, in which assumptions stand in their place; or the parser's fault
pub record AreRead (lines : List Text) (done : Outcome) (r : Result Reading TextFault) : Type 0 where
  pub tree : Result Source TextFault
  pub parsed : AreParsed (with_assumptions lines done.output) tree
  pub comes : r ≡ with_macros done.macros tree

-- what one part comes to the next one is given; a part's fault is that of all
abbrev pub Then : {A B : Type 0} → Result A TextFault → (A → Result B TextFault → Type 0)
    → Result B TextFault → Type 0
Then (Ok a) Next r = Next a r
Then (Err fault) Next r = r ≡ Err fault

pub record InTurn {A B : Type 0} (First : Result A TextFault → Type 0) (Next : A → Result B TextFault → Type 0)
    (r : Result B TextFault) : Type 0 where
  pub middle : Result A TextFault
  pub first : First middle
  pub next : Then middle Next r

-- the preprocessor's part and the parser's
abbrev pub FromTokens : Core → List Text → List Token → Result Reading TextFault → Type 0
FromTokens core lines tokens r = InTurn (ArePrepared core tokens) (AreRead lines) r

-- what texts with lines of assumptions come to: they are lexed, preprocessed in one list, and parsed
abbrev pub Comes : Core → List Text → List Text → Result Reading TextFault → Type 0
Comes core texts lines r = InTurn (AreLaid texts lines) (FromTokens core lines) r

-- it is there, and nothing else is
pub record Only {A : Type 0} (Is : Result A TextFault → Type 0) (r : Result A TextFault) : Type 0 where
  pub is : Is r
  pub only : (other : Result A TextFault) → Is other → other ≡ r

-- the answer is the one thing that is there; want of memory says nothing
abbrev pub Answers : {A : Type 0} → (Result A TextFault → Type 0) → Result A TextFault → Type 0
Answers Is (Ok a) = Only Is (Ok a)
Answers Is (Err (Lex fault)) = Only Is (Err (Lex fault))
Answers Is (Err (Prep fault)) = Only Is (Err (Prep fault))
Answers Is (Err (Parse fault)) = Only Is (Err (Parse fault))
Answers Is (Err Memory) = Unit {0}

-- answers, with the macros as contracts see them
abbrev pub outcome_seen : Result (Vec Token × Macros) TextFault → Result Outcome TextFault
outcome_seen (Ok r) = Ok (record { macros = held r.1; output = r.0.items })
outcome_seen (Err fault) = Err fault

abbrev pub reading_seen : Result (Source × Macros) TextFault → Result Reading TextFault
reading_seen (Ok r) = Ok (record { tree = r.0; macros = held r.1 })
reading_seen (Err fault) = Err fault

-- the tree alone
abbrev pub tree_seen : Result (Source × Macros) TextFault → Result Source TextFault
tree_seen (Ok r) = Ok r.0
tree_seen (Err fault) = Err fault
