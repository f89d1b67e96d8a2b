-- Short texts that the grammar has, and some that it lacks, written out.
use Rattle.std.specs.Prelude.{◌≡◌, refl, true, false, [], ◌∷◌, Ok, Err}
use Rattle.fv_text.specs.declared.keyword.Keyword.{Keyword}
use Rattle.fv_text.specs.declared.keyword.Keyword.TheVariants as w
use Rattle.fv_text.specs.declared.kind.Kind.{Kind}
use Rattle.fv_text.specs.declared.kind.Kind.TheVariants as k
use Rattle.fv_text.specs.declared.symbol.Symbol.{Symbol}
use Rattle.fv_text.specs.declared.symbol.Symbol.TheVariants as s
use Rattle.vl_parse_grammar.specs.Machine.{syntax}
use Rattle.vl_parse_grammar.specs.Grammar.{accepts, expr, stmt, run}

abbrev a : Kind
a = k.Name (97 ∷ [])

abbrev b : Kind
b = k.Name (98 ∷ [])

abbrev sign : Symbol → Kind
sign x = k.Symbol x

abbrev word : Keyword → Kind
word x = k.Keyword x

-- a + (a ? b : a)
sum : accepts (expr ∷ [])
    (a ∷ sign s.Plus ∷ sign s.OpenParen ∷ a ∷ sign s.Question ∷ b ∷ sign s.Colon ∷ a ∷ sign s.CloseParen ∷ []) ≡ true
sum = refl

-- {a + b {a, b}}
replication : accepts (expr ∷ [])
    (sign s.OpenBrace ∷ a ∷ sign s.Plus ∷ b ∷ sign s.OpenBrace ∷ a ∷ sign s.Comma ∷ b ∷ sign s.CloseBrace
    ∷ sign s.CloseBrace ∷ []) ≡ true
replication = refl

-- not {a {b}, a}
no_part_behind : accepts (expr ∷ [])
    (sign s.OpenBrace ∷ a ∷ sign s.OpenBrace ∷ b ∷ sign s.CloseBrace ∷ sign s.Comma ∷ a ∷ sign s.CloseBrace ∷ [])
    ≡ false
no_part_behind = refl

-- not case (a) default ; default ; endcase
no_second_default : accepts (stmt ∷ [])
    (word w.Case ∷ sign s.OpenParen ∷ a ∷ sign s.CloseParen ∷ word w.Default ∷ sign s.Semicolon ∷ word w.Default
    ∷ sign s.Semicolon
    ∷ word w.Endcase ∷ []) ≡ false
no_second_default = refl

-- module a; always @* if (a) b[a] = a; else ; endmodule
always : run
    (word w.Module ∷ a ∷ sign s.Semicolon ∷ word w.Always ∷ sign s.At ∷ sign s.Star ∷ word w.If ∷ sign s.OpenParen
    ∷ a ∷ sign s.CloseParen
    ∷ b ∷ sign s.OpenBracket ∷ a ∷ sign s.CloseBracket ∷ sign s.Equal ∷ a ∷ sign s.Semicolon ∷ word w.Else
    ∷ sign s.Semicolon
    ∷ word w.Endmodule ∷ []) ≡ Ok tt
always = refl

-- module a; for (a = a; a; a = a) b a (.b()); endmodule
loop : run
    (word w.Module ∷ a ∷ sign s.Semicolon ∷ word w.For ∷ sign s.OpenParen ∷ a ∷ sign s.Equal ∷ a ∷ sign s.Semicolon
    ∷ a ∷ sign s.Semicolon
    ∷ a ∷ sign s.Equal ∷ a ∷ sign s.CloseParen ∷ b ∷ a ∷ sign s.OpenParen ∷ sign s.Dot ∷ b ∷ sign s.OpenParen
    ∷ sign s.CloseParen
    ∷ sign s.CloseParen ∷ sign s.Semicolon ∷ word w.Endmodule ∷ []) ≡ Ok tt
loop = refl

-- module a; for (a = a; a; b .. is wrong at the b, the last of the tokens
other_variable : run
    (word w.Module ∷ a ∷ sign s.Semicolon ∷ word w.For ∷ sign s.OpenParen ∷ a ∷ sign s.Equal ∷ a ∷ sign s.Semicolon
    ∷ a ∷ sign s.Semicolon
    ∷ b ∷ []) ≡ Err (syntax 1)
other_variable = refl
