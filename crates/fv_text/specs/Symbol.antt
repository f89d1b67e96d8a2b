-- Meaning: The signs and their texts: operators and punctuation of IEEE 1364-2005, clauses 3 to 5, that this project's
-- subset of Verilog uses, with the two that it names as outside of it.
use Rattle.std.specs.Prelude.{ℕ, List, codes}
use Rattle.fv_text.specs.declared.symbol.Symbol.{Symbol}
use Rattle.fv_text.specs.declared.symbol.Symbol.TheVariants.{
  OpenParen,
  CloseParen,
  OpenBracket,
  CloseBracket,
  OpenBrace,
  CloseBrace,
  OpenAttribute,
  CloseAttribute,
  Semicolon,
  Colon,
  Comma,
  Dot,
  Hash,
  At,
  Equal,
  Question,
  Plus,
  Minus,
  Star,
  Slash,
  Percent,
  StarStar,
  Bang,
  Tilde,
  And,
  Or,
  Caret,
  TildeAnd,
  TildeOr,
  TildeCaret,
  CaretTilde,
  AndAnd,
  OrOr,
  Less,
  LessEqual,
  Greater,
  GreaterEqual,
  EqualEqual,
  BangEqual,
  EqualEqualEqual,
  BangEqualEqual,
  LessLess,
  GreaterGreater,
  LessLessLess,
  GreaterGreaterGreater,
  PlusColon,
  MinusColon,
}

-- how a sign is written
unfoldable pub symbol_text : Symbol → List ℕ
symbol_text OpenParen = codes "("
symbol_text CloseParen = codes ")"
symbol_text OpenBracket = codes "["
symbol_text CloseBracket = codes "]"
symbol_text OpenBrace = codes "{"
symbol_text CloseBrace = codes "}"
symbol_text OpenAttribute = codes "(*"
symbol_text CloseAttribute = codes "*)"
symbol_text Semicolon = codes ";"
symbol_text Colon = codes ":"
symbol_text Comma = codes ","
symbol_text Dot = codes "."
symbol_text Hash = codes "#"
symbol_text At = codes "@"
symbol_text Equal = codes "="
symbol_text Question = codes "?"
symbol_text Plus = codes "+"
symbol_text Minus = codes "-"
symbol_text Star = codes "*"
symbol_text Slash = codes "/"
symbol_text Percent = codes "%"
symbol_text StarStar = codes "**"
symbol_text Bang = codes "!"
symbol_text Tilde = codes "~"
symbol_text And = codes "&"
symbol_text Or = codes "|"
symbol_text Caret = codes "^"
symbol_text TildeAnd = codes "~&"
symbol_text TildeOr = codes "~|"
symbol_text TildeCaret = codes "~^"
symbol_text CaretTilde = codes "^~"
symbol_text AndAnd = codes "&&"
symbol_text OrOr = codes "||"
symbol_text Less = codes "<"
symbol_text LessEqual = codes "<="
symbol_text Greater = codes ">"
symbol_text GreaterEqual = codes ">="
symbol_text EqualEqual = codes "=="
symbol_text BangEqual = codes "!="
symbol_text EqualEqualEqual = codes "==="
symbol_text BangEqualEqual = codes "!=="
symbol_text LessLess = codes "<<"
symbol_text GreaterGreater = codes ">>"
symbol_text LessLessLess = codes "<<<"
symbol_text GreaterGreaterGreater = codes ">>>"
symbol_text PlusColon = codes "+:"
symbol_text MinusColon = codes "-:"
