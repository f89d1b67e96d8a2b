-- Between functions: What the public calls promise. Which kind of token comes next. Rule of this project.
use Rattle.std.specs.Prelude.{◌≡◌, List, [], ◌∷◌}
use Rattle.fv_text.specs.declared.kind.Kind.{Kind}
use Rattle.fv_text.specs.declared.kind.Kind.TheVariants as k
use Rattle.fv_text.specs.declared.token.Token.{Token}
use Rattle.vl_parse_grammar.specs.Grammar.{Outcome, read, sign, name}
use Rattle.fv_text.specs.declared.symbol.Symbol.{Symbol}

-- the kinds of the tokens
abbrev pub kinds_in : List Token → List Kind
kinds_in [] = []
kinds_in (t ∷ ts) = t.kind ∷ kinds_in ts

-- another token comes next, or none
abbrev pub IsOther : Kind → List Kind → Type 0
IsOther kind [] = Unit {0}
IsOther kind (t ∷ ts) = t ≡ kind → ⊥

-- what is behind the sign; no room is asked for
unfoldable pub behind : Symbol → List Kind → Outcome
behind wanted ts = read (sign wanted) 0 ts

unfoldable pub behind_name : List Kind → Outcome
behind_name ts = read name 0 ts

-- no name comes next
abbrev pub IsNoName : List Kind → Type 0
IsNoName (k.Name text ∷ ts) = ⊥
IsNoName ts = Unit {0}
