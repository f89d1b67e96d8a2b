-- What is read of connections, as one and then what stands behind one.
use Rattle.std.proofs.Common.{◌≡◌, ℕ, List, [], ◌∷◌, refl, sym, ap, ◌∙◌}
use Rattle.std.specs.Prelude.{Ok, Err}
use Rattle.fv_text.specs.declared.kind.Kind.{Kind}
use Rattle.fv_text.specs.declared.kind.Kind.TheVariants as k
use Rattle.fv_text.specs.declared.symbol.Symbol.TheVariants as s
use Rattle.vl_parse_grammar.specs.Machine as machine
use Rattle.vl_parse_grammar.specs.Machine.{then}
use Rattle.vl_parse_grammar.specs.Grammar.{Outcome, read, read_all, name, first_connection, connection}
use Rattle.vl_parse_grammar.specs.Grammar.{more_connections}
use Rattle.vl_parse_grammar.specs.Grammar.{connected}
use Rattle.vl_parse_cursor.specs.Next.{IsOther}
use Rattle.vl_parse_decl.specs.Tails.{more_connections_all}
use Rattle.vl_parse_decl.proofs.PartRows.{first_connection_dot, connection_row}

then_two : (a : Outcome) (f g : List Kind → Outcome) → then a (λ r. then (f r) g) ≡ then (then a f) g
then_two (Ok r) f g = refl
then_two (Err e) f g = refl

one_first : (n : ℕ) (ts : List Kind) → IsOther (k.Symbol s.CloseParen) ts
    → read first_connection n ts ≡ then (read connection n ts) (λ r. read more_connections n r)
unfolding read machine.reads
one_first n [] h = refl
one_first n (k.Symbol s.Dot ∷ ts) h =
    first_connection_dot n ts ∙ then_two (read name n ts) (λ r. read connected n r) (λ q. read more_connections n q)
    ∙ ap (λ a. then a (λ r. read more_connections n r)) (sym (connection_row n ts))
one_first n (k.Symbol s.CloseParen ∷ ts) h = absurd (h refl)
one_first n (t ∷ ts) h = refl

pub connections_listed : (n : ℕ) (ts : List Kind) → IsOther (k.Symbol s.CloseParen) ts
    → read first_connection n ts ≡ then (read_all (connection ∷ []) n ts) (λ r. read more_connections n r)
connections_listed n ts h =
    one_first n ts h ∙ ap (λ a. then a (λ r. read more_connections n r)) (sym (more_connections_all n ts))

pub ruleset of_connection_list = (connections_listed)
