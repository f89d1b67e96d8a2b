-- What is read where no token is left.
use Rattle.std.proofs.Common.{◌≡◌, ℕ, [], refl, ◌∙◌}
use Rattle.std.specs.Prelude.{Err}
use Rattle.fv_text.specs.declared.symbol.Symbol.TheVariants as s
use Rattle.vl_parse_grammar.specs.Machine as machine
use Rattle.vl_parse_grammar.specs.Machine.{syntax, then}
use Rattle.vl_parse_grammar.specs.Grammar.{read, read_all, sign, name, expr, shape, parameter}
use Rattle.vl_parse_decl.specs.Tails.{parameters_all}

in_turn_end : (n : ℕ) → then (read shape n [])
    (λ r. then (read name n r) (λ q. then (read (sign s.Equal) n q) (λ u. read expr n u))) ≡ Err (syntax 0)
unfolding read machine.reads
in_turn_end n = refl

pub parameter_end : (n : ℕ) → read_all parameter n [] ≡ Err (syntax 0)
parameter_end n = parameters_all n [] ∙ in_turn_end n

pub ruleset ends = (parameter_end)
