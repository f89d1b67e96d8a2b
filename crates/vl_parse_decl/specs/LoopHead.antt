-- Between functions: What functions promise each other, and what they stand on. The parts of a loop's head, as rules
-- of the grammar that are read in turn. IEEE 1364-2005, section A.4.2.
use Rattle.std.specs.Prelude.{ℕ, List}
use Rattle.fv_text.specs.declared.kind.Kind.{Kind}
use Rattle.fv_text.specs.declared.symbol.Symbol.TheVariants as s
use Rattle.vl_parse_grammar.specs.Machine.{then}
use Rattle.vl_parse_grammar.specs.Grammar.{Outcome, read, sign, expr, this_name}

-- `= expr`
abbrev pub step : ℕ → List Kind → Outcome
step room ts = then (read (sign s.Equal) room ts) (λ r. read expr room r)

-- `; expr ;`
abbrev pub condition : ℕ → List Kind → Outcome
condition room ts =
    then (read (sign s.Semicolon) room ts) (λ r. then (read expr room r) (λ q. read (sign s.Semicolon) room q))

-- `variable = expr)`
abbrev pub last_step : List ℕ → ℕ → List Kind → Outcome
last_step variable room ts =
    then (read (this_name variable) room ts) (λ r. then (step room r) (λ q. read (sign s.CloseParen) room q))

-- what is behind the variable
abbrev pub steps : List ℕ → ℕ → List Kind → Outcome
steps variable room ts = then (step room ts) (λ r. then (condition room r) (λ q. last_step variable room q))
