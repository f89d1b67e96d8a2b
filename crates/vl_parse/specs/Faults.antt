-- Meaning: How a text is refused: where, and by which token. Rule of this project.
use Rattle.std.specs.Prelude.{
  ◌≡◌,
  ℕ,
  zero,
  suc,
  ◌+◌,
  ◌-◌,
  slice_get,
  Bool,
  true,
  false,
  List,
  [],
  ◌∷◌,
  ◌++◌,
  length,
}
use Rattle.std.specs.Prelude.{Result, Ok, Err, Option, Some, None, codes}
use Rattle.fv_text.specs.Keyword.{keyword_text}
use Rattle.fv_text.specs.Symbol.{symbol_text}
use Rattle.fv_text.specs.declared.kind.Kind.{Kind}
use Rattle.fv_text.specs.declared.kind.Kind.TheVariants as k
use Rattle.fv_text.specs.declared.keyword.Keyword.{Keyword}
use Rattle.fv_text.specs.declared.keyword.Keyword.TheVariants as w
use Rattle.fv_text.specs.declared.pos.Pos.{Pos}
use Rattle.fv_text.specs.declared.symbol.Symbol.TheVariants as s
use Rattle.fv_text.specs.declared.token.Token.{Token}
use Rattle.vl_tree.specs.declared.source.Source.{Source}
use Rattle.vl_tree.specs.declared.operator.Cast.{Cast}
use Rattle.vl_parse_grammar.specs.Machine.{Fault, syntax, deep}
use Rattle.vl_parse_grammar.specs.Operators.{cast_of}
use Rattle.vl_parse_grammar.specs.Grammar.{is_known}
use Rattle.vl_parse.specs.declared.fault.ParseFault.{ParseFault}
use Rattle.vl_parse.specs.declared.fault.ParseFault.TheVariants as f

-- a word that the grammar of the subset speaks of
abbrev pub is_inside : Keyword → Bool
is_inside w.Module = true
is_inside w.Endmodule = true
is_inside w.Input = true
is_inside w.Output = true
is_inside w.Wire = true
is_inside w.Reg = true
is_inside w.Integer = true
is_inside w.Signed = true
is_inside w.Parameter = true
is_inside w.Localparam = true
is_inside w.Genvar = true
is_inside w.Generate = true
is_inside w.Endgenerate = true
is_inside w.Assign = true
is_inside w.Always = true
is_inside w.Initial = true
is_inside w.Posedge = true
is_inside w.Begin = true
is_inside w.End = true
is_inside w.If = true
is_inside w.Else = true
is_inside w.Case = true
is_inside w.Casez = true
is_inside w.Endcase = true
is_inside w.Default = true
is_inside w.For = true
is_inside w.Assume = true
is_inside found = false

abbrev pub word_unless : Bool → List ℕ → Option (List ℕ)
word_unless true text = None
word_unless false text = Some text

abbrev pub system_word : Option Cast → List ℕ → Option (List ℕ)
system_word None text = Some (codes "$" ++ text)
system_word (Some cast) text = None

-- how a token outside of the subset is named: as it is written, but for strings and numbers
abbrev pub outside_word : Kind → Option (List ℕ)
outside_word (k.Keyword found) = word_unless (is_inside found) (keyword_text found)
outside_word (k.Symbol s.StarStar) = Some (symbol_text s.StarStar)
outside_word (k.Symbol s.MinusColon) = Some (symbol_text s.MinusColon)
outside_word k.Quoted = Some (codes "string")
outside_word (k.Number n) = word_unless (is_known n) (codes "number")
outside_word (k.System text) = system_word (cast_of text) text
outside_word t = None

-- the place of a text without tokens
abbrev pub start : Pos
start = record { file = 1; line = 1; col = 1 }

-- the token from which so many are left; none at the end
abbrev pub token_at : List Token → ℕ → Option Token
token_at ts left = slice_get ts (length ts - left)

abbrev pub place_of : Option Token → Pos → Pos
place_of None p = p
place_of (Some t) p = t.pos

-- its place; the end of the text counts as a token at the place of the last one
abbrev pub place_at : List Token → ℕ → Pos
place_at ts left = place_of (token_at ts left) (place_of (token_at ts 1) start)

abbrev pub wrong_at : Pos → Option (List ℕ) → ParseFault
wrong_at p None = f.Syntax p
wrong_at p (Some word) = f.Outside p word

abbrev pub named_at : Pos → Option Token → ParseFault
named_at p None = f.Syntax p
named_at p (Some t) = wrong_at p (outside_word t.kind)

-- what is answered of the token where it is out of place
abbrev pub wrong_token : List Token → ℕ → ParseFault
wrong_token ts left = named_at (place_at ts left) (token_at ts left)

-- what is answered of the token at which 257 constructs are open: the last token too deep is a wrong end
abbrev pub deep_fault : List Token → ℕ → ParseFault
deep_fault ts (suc zero) = wrong_token ts 0
deep_fault ts left = f.TooDeep (place_at ts left)

-- what is answered of a text that reading by the grammar refuses
abbrev pub fault_of : List Token → Fault → ParseFault
fault_of ts (syntax left) = wrong_token ts left
fault_of ts (deep left) = deep_fault ts left

-- that fault, or want of memory
abbrev pub IsMemoryOr : ParseFault → ParseFault → Type 0
IsMemoryOr wanted f.Memory = Unit {0}
IsMemoryOr wanted found = found ≡ wanted

-- a tree is answered exactly where reading by the grammar comes to the end, and a refusal where it stops
abbrev pub Answers : List Token → Result Source ParseFault → Result (Unit {0}) Fault → Type 0
Answers ts (Ok tree) (Ok u) = Unit {0}
Answers ts (Ok tree) (Err e) = ⊥
Answers ts (Err f.Memory) r = Unit {0}
Answers ts (Err refused) (Ok u) = ⊥
Answers ts (Err refused) (Err e) = refused ≡ fault_of ts e
