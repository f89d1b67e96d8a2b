-- Between functions: Signs are compared by their places in the list of all signs. IEEE 1364-2005, clauses 3 and 5.
use Rattle.std.specs.Prelude.{ℕ, Bool, ◌==◌}
use Rattle.fv_text.specs.declared.symbol.Symbol.{Symbol}
use Rattle.fv_text.specs.declared.symbol.Symbol.TheVariants as s

abbrev pub place : Symbol → ℕ
place s.OpenParen = 0
place s.CloseParen = 1
place s.OpenBracket = 2
place s.CloseBracket = 3
place s.OpenBrace = 4
place s.CloseBrace = 5
place s.OpenAttribute = 6
place s.CloseAttribute = 7
place s.Semicolon = 8
place s.Colon = 9
place s.Comma = 10
place s.Dot = 11
place s.Hash = 12
place s.At = 13
place s.Equal = 14
place s.Question = 15
place s.Plus = 16
place s.Minus = 17
place s.Star = 18
place s.Slash = 19
place s.Percent = 20
place s.StarStar = 21
place s.Bang = 22
place s.Tilde = 23
place s.And = 24
place s.Or = 25
place s.Caret = 26
place s.TildeAnd = 27
place s.TildeOr = 28
place s.TildeCaret = 29
place s.CaretTilde = 30
place s.AndAnd = 31
place s.OrOr = 32
place s.Less = 33
place s.LessEqual = 34
place s.Greater = 35
place s.GreaterEqual = 36
place s.EqualEqual = 37
place s.BangEqual = 38
place s.EqualEqualEqual = 39
place s.BangEqualEqual = 40
place s.LessLess = 41
place s.GreaterGreater = 42
place s.LessLessLess = 43
place s.GreaterGreaterGreater = 44
place s.PlusColon = 45
place s.MinusColon = 46

abbrev pub same_sign : Symbol → Symbol → Bool
same_sign wanted found = place wanted == place found
