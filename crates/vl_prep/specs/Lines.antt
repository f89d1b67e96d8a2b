-- Meaning: Lines. A macro's text ends with its line, but a backslash directly before the line's end joins the next one
-- (IEEE 1364-2005, section 19.3.1). Lines past 2^32 - 1 have that number.
use Rattle.std.specs.Prelude.{ℕ, ◌+◌, ◌-◌, ◌^◌, min, Bool, true, false, ◌&&◌, ◌==◌, List, length}
use Rattle.fv_text.specs.declared.kind.Kind.{Kind}
use Rattle.fv_text.specs.declared.kind.Kind.TheVariants as k
use Rattle.fv_text.specs.declared.pos.Pos.{Pos}
use Rattle.fv_text.specs.declared.symbol.Symbol.TheVariants.{OpenParen, OpenAttribute}
use Rattle.fv_text.specs.declared.token.Token.{Token}
use Rattle.vl_prep.specs.declared.reading.Body.{Body}

-- both places are on one line of one file
abbrev pub on_line : Pos → Pos → Bool
on_line p q = p.file == q.file && p.line == q.line

abbrev pub line_behind : ℕ → ℕ
line_behind line = min (line + 1) (2 ^ 32 - 1)

-- the place is on the line to which the macro's text has come
abbrev pub goes_on : Body → Pos → Bool
goes_on b p = p.file == b.pos.file && p.line == b.line

-- `(*` is a bracket too, since the lexer takes the longest sign
abbrev pub is_bracket : Kind → Bool
is_bracket (k.Symbol OpenParen) = true
is_bracket (k.Symbol OpenAttribute) = true
is_bracket kind = false

-- the token is a bracket directly behind the name that is defined: the macro has arguments
abbrev pub begins_arguments : List ℕ → Pos → Token → Bool
begins_arguments name pos t = is_bracket t.kind && on_line pos t.pos && t.pos.col == pos.col + length name

abbrev pub has_bracket : Body → Token → Bool
has_bracket b t = begins_arguments b.name b.pos t
