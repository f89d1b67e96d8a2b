-- Meaning: Lines of assumptions as items, and where these stand. Rules of this project.
use Rattle.std.specs.Prelude.{
  refl,
  ℕ,
  ◌+◌,
  ◌-◌,
  ◌==◌,
  ◌&&◌,
  nat_le,
  Bool,
  true,
  false,
  not,
  List,
  [],
  ◌∷◌,
  ◌++◌,
}
use Rattle.std.specs.Prelude.{length, take, drop, slice_get, Option, None, Some, if◌then◌else◌, codes}
use Rattle.std.specs.Prelude.{bytes_eq}
use Rattle.std.specs.List.{filter, prefix_len}
use Rattle.fv_text.specs.declared.keyword.Keyword.{Keyword}
use Rattle.fv_text.specs.declared.keyword.Keyword.TheVariants as w
use Rattle.fv_text.specs.declared.kind.Kind.{Kind}
use Rattle.fv_text.specs.declared.kind.Kind.TheVariants as k
use Rattle.fv_text.specs.declared.pos.Pos.{Pos}
use Rattle.fv_text.specs.declared.symbol.Symbol.{Symbol}
use Rattle.fv_text.specs.declared.symbol.Symbol.TheVariants as s
use Rattle.fv_text.specs.declared.token.Token.{Token}
use Rattle.vl_token.specs.Place.{start_of}
use Rattle.vl_text.specs.Texts.{Text}
use Rattle.vl_text.specs.declared.assumptions.Section.{Section}

abbrev pub word_at : Keyword → Pos → Token
word_at word at = record { kind = k.Keyword word; pos = at; named = refl }

abbrev pub sign_at : Symbol → Pos → Token
sign_at sign at = record { kind = k.Symbol sign; pos = at; named = refl }

-- `always @* assume (` in front of a line's tokens, at a place
abbrev pub front_at : Pos → List Token
front_at at =
    word_at w.Always at ∷ sign_at s.At at ∷ sign_at s.Star at ∷ word_at w.Assume at ∷ sign_at s.OpenParen at ∷ []

-- `);` behind them
abbrev pub end_at : Pos → List Token
end_at at = sign_at s.CloseParen at ∷ sign_at s.Semicolon at ∷ []

-- the item `always @* assume (TOKENS);`. The tokens that are put round the others have this place
abbrev pub item : Pos → List Token → List Token
item at ts = front_at at ++ (ts ++ end_at at)

-- column 1 of a line
abbrev pub line_start : Text → Pos
line_start x = start_of x.file x.line

-- the token stands on the line, as one of a macro's text does that is used there
abbrev pub is_on : Text → Token → Bool
is_on x t = t.pos.file == x.file && t.pos.line == x.line

-- how many of the tokens stand on the line, up to the first that doesn't
abbrev pub many_on : Text → List Token → ℕ
many_on x ts = prefix_len (is_on x) ts

-- Each line of assumptions is an item of what the preprocessor leaves of it. Tokens keep their order, so those of the
-- first line come first. A line of which nothing is left is an item without an expression.
abbrev pub items : List Text → List Token → List Token
items [] ts = []
items (x ∷ xs) ts = item (line_start x) (take (many_on x ts) ts) ++ items xs (drop (many_on x ts) ts)

abbrev pub section_between : Option Text → Option Text → Option Section
section_between (Some x) (Some y) = Some (record { first = x.line; last = y.line })
section_between x y = None

-- from the line of the first assumption to that of the last one
abbrev pub section_of : List Text → Option Section
section_of lines = section_between (slice_get lines 0) (slice_get lines (length lines - 1))

-- the place is on one of these lines of the configuration
abbrev pub is_within : Section → Pos → Bool
is_within section at = at.file == 0 && (nat_le section.first at.line && nat_le at.line section.last)

-- Assumptions are a section of the configuration: what stands there from the first of them to the last is theirs. A
-- token of a macro's text stands where the macro is used.
abbrev pub is_assumed : Section → Token → Bool
is_assumed section t = is_within section t.pos

abbrev pub is_not_assumed : Section → Token → Bool
is_not_assumed section t = not (is_within section t.pos)

abbrev pub is_module : Kind → Bool
is_module (k.Keyword w.Module) = true
is_module kind = false

abbrev pub is_endmodule : Kind → Bool
is_endmodule (k.Keyword w.Endmodule) = true
is_endmodule kind = false

abbrev pub is_top_name : Kind → Bool
is_top_name (k.Name text) = bytes_eq text (codes "rvfi_wrapper")
is_top_name kind = false

-- the first of the tokens is this name
abbrev pub is_top : List Token → Bool
is_top [] = false
is_top (n ∷ ts) = is_top_name n.kind

-- how many tokens stand in front of the first `endmodule`, where so many stand before these
abbrev pub first_end : ℕ → List Token → Option ℕ
first_end before [] = None
first_end before (t ∷ ts) = if is_endmodule t.kind then Some before else first_end (before + 1) ts

-- `module rvfi_wrapper` stands here
abbrev pub begins_top : Token → List Token → Bool
begins_top t ts = is_module t.kind && is_top ts

-- how many stand in front of the first `endmodule` behind the first `module rvfi_wrapper`
abbrev pub end_of_top : ℕ → List Token → Option ℕ
end_of_top before [] = None
end_of_top before (t ∷ ts) = if begins_top t ts then first_end (before + 1) ts else end_of_top (before + 1) ts

-- the items behind so many tokens; where the top module has no end, they are dropped
abbrev pub put_in : Option ℕ → List Token → List Token → List Token
put_in None items ts = ts
put_in (Some before) items ts = take before ts ++ (items ++ drop before ts)

-- the items in front of the end of the top module
abbrev pub put_in_top : List Token → List Token → List Token
put_in_top items ts = put_in (end_of_top 0 ts) items ts

-- the items of assumptions in front of the end of the top module, and all other tokens as they stand
abbrev pub placed : Option Section → List Text → List Token → List Token
placed None lines ts = ts
placed (Some section) lines ts =
    put_in_top (items lines (filter (is_assumed section) ts)) (filter (is_not_assumed section) ts)

-- what is parsed, of the preprocessed tokens of the texts and, behind them, of the lines of assumptions
abbrev pub with_assumptions : List Text → List Token → List Token
with_assumptions lines ts = placed (section_of lines) lines ts
