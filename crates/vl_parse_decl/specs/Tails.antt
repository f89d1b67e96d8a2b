-- Between functions: What functions promise each other, and what they stand on. Lists with commas, as rules of the
-- grammar: an element, and what stands behind one. Rule of this project.
use Rattle.std.proofs.Common.{
  ◌≡◌,
  ℕ,
  zero,
  suc,
  ◌+◌,
  ◌-◌,
  ◌≤◌,
  ◌<◌,
  Bool,
  true,
  false,
  List,
  [],
  ◌∷◌,
  ◌++◌,
  length,
}
use Rattle.std.proofs.Common.{refl, sym, ap, ◌∙◌, arith}
use Rattle.std.specs.Prelude.{Result, Ok, Err, Option, Some, None, map}
use Rattle.fv_text.specs.declared.kind.Kind.{Kind}
use Rattle.fv_text.specs.declared.kind.Kind.TheVariants as k
use Rattle.fv_text.specs.declared.keyword.Keyword.{Keyword}
use Rattle.fv_text.specs.declared.keyword.Keyword.TheVariants as w
use Rattle.fv_text.specs.declared.symbol.Symbol.{Symbol}
use Rattle.fv_text.specs.declared.symbol.Symbol.TheVariants as s
use Rattle.vl_parse_grammar.specs.Machine as machine
use Rattle.vl_parse_grammar.specs.Machine.{Row, Move, take, pop, bad, syntax, deep, then}
use Rattle.vl_parse_grammar.specs.Grammar.{Rule, Outcome, expand, ends, read, read_all, sign, name, expr, value, target}
use Rattle.vl_parse_grammar.specs.Grammar.{attributes, range, shape, declared_name, declared_names, names, parameters}
use Rattle.vl_parse_grammar.specs.Grammar.{parameter, assignment, assignments, connection, more_connections}
use Rattle.vl_parse_grammar.specs.Grammar.{optional_parameter, more_header_parameters, port, more_ports, label, labels}
use Rattle.vl_parse_cursor.specs.Next.{IsOther, behind}
use Rattle.vl_parse_cursor.specs.Parts.{tail_comma, read_all_turn}

pub attributes_comma_all : (n : ℕ) (ts : List Kind)
    → read attributes n (k.Symbol s.Comma ∷ ts)
    ≡ then (read_all (name ∷ value ∷ []) n ts) (λ r. read attributes n r)
attributes_comma_all n ts = tail_comma attributes (name ∷ value ∷ []) n ts refl

pub attributes_all : (n : ℕ) (ts : List Kind)
    → read_all (name ∷ value ∷ []) n ts ≡ then (read name n ts) (λ r. read value n r)
attributes_all n ts = read_all_turn (name ∷ value ∷ []) n ts

pub attributes_ending : (n : ℕ) (ts : List Kind) → IsOther (k.Symbol s.Comma) ts
    → read attributes n ts ≡ behind s.CloseAttribute ts
unfolding behind read machine.reads
attributes_ending n [] h0 = refl
attributes_ending n (k.Symbol s.Comma ∷ ts) h0 = absurd (h0 refl)
attributes_ending n (k.Symbol s.CloseAttribute ∷ ts) h0 = refl
attributes_ending n (t ∷ ts) h0 = refl

pub declared_names_comma_all : (n : ℕ) (ts : List Kind)
    → read declared_names n (k.Symbol s.Comma ∷ ts) ≡
    then (read_all (declared_name ∷ []) n ts) (λ r. read declared_names n r)
declared_names_comma_all n ts = tail_comma declared_names (declared_name ∷ []) n ts refl

pub declared_names_all : (n : ℕ) (ts : List Kind) → read_all (declared_name ∷ []) n ts ≡ read declared_name n ts
declared_names_all n ts = read_all_turn (declared_name ∷ []) n ts

pub declared_names_ending : (n : ℕ) (ts : List Kind) → IsOther (k.Symbol s.Comma) ts
    → read declared_names n ts ≡ behind s.Semicolon ts
unfolding behind read machine.reads
declared_names_ending n [] h0 = refl
declared_names_ending n (k.Symbol s.Comma ∷ ts) h0 = absurd (h0 refl)
declared_names_ending n (k.Symbol s.Semicolon ∷ ts) h0 = refl
declared_names_ending n (t ∷ ts) h0 = refl

pub names_comma_all : (n : ℕ) (ts : List Kind)
    → read names n (k.Symbol s.Comma ∷ ts) ≡ then (read_all (name ∷ []) n ts) (λ r. read names n r)
names_comma_all n ts = tail_comma names (name ∷ []) n ts refl

pub names_all : (n : ℕ) (ts : List Kind) → read_all (name ∷ []) n ts ≡ read name n ts
names_all n ts = read_all_turn (name ∷ []) n ts

pub names_ending : (n : ℕ) (ts : List Kind) → IsOther (k.Symbol s.Comma) ts
    → read names n ts ≡ behind s.Semicolon ts
unfolding behind read machine.reads
names_ending n [] h0 = refl
names_ending n (k.Symbol s.Comma ∷ ts) h0 = absurd (h0 refl)
names_ending n (k.Symbol s.Semicolon ∷ ts) h0 = refl
names_ending n (t ∷ ts) h0 = refl

pub parameters_comma_all : (n : ℕ) (ts : List Kind)
    → read parameters n (k.Symbol s.Comma ∷ ts) ≡ then (read_all (parameter) n ts) (λ r. read parameters n r)
parameters_comma_all n ts = tail_comma parameters (parameter) n ts refl

pub parameters_all : (n : ℕ) (ts : List Kind)
    → read_all (parameter) n ts ≡ then (read shape n ts)
    (λ r. then (read name n r) (λ q. then (read (sign s.Equal) n q) (λ u. read expr n u)))
parameters_all n ts = read_all_turn (parameter) n ts

pub parameters_ending : (n : ℕ) (ts : List Kind) → IsOther (k.Symbol s.Comma) ts
    → read parameters n ts ≡ behind s.Semicolon ts
unfolding behind read machine.reads
parameters_ending n [] h0 = refl
parameters_ending n (k.Symbol s.Comma ∷ ts) h0 = absurd (h0 refl)
parameters_ending n (k.Symbol s.Semicolon ∷ ts) h0 = refl
parameters_ending n (t ∷ ts) h0 = refl

pub assignments_comma_all : (n : ℕ) (ts : List Kind)
    → read assignments n (k.Symbol s.Comma ∷ ts) ≡ then (read_all (assignment) n ts) (λ r. read assignments n r)
assignments_comma_all n ts = tail_comma assignments (assignment) n ts refl

pub assignments_all : (n : ℕ) (ts : List Kind)
    → read_all (assignment) n ts ≡ then (read target n ts)
    (λ r. then (read (sign s.Equal) n r) (λ q. read expr n q))
assignments_all n ts = read_all_turn (assignment) n ts

pub assignments_ending : (n : ℕ) (ts : List Kind) → IsOther (k.Symbol s.Comma) ts
    → read assignments n ts ≡ behind s.Semicolon ts
unfolding behind read machine.reads
assignments_ending n [] h0 = refl
assignments_ending n (k.Symbol s.Comma ∷ ts) h0 = absurd (h0 refl)
assignments_ending n (k.Symbol s.Semicolon ∷ ts) h0 = refl
assignments_ending n (t ∷ ts) h0 = refl

pub more_connections_comma_all : (n : ℕ) (ts : List Kind)
    → read more_connections n (k.Symbol s.Comma ∷ ts) ≡
    then (read_all (connection ∷ []) n ts) (λ r. read more_connections n r)
more_connections_comma_all n ts = tail_comma more_connections (connection ∷ []) n ts refl

pub more_connections_all : (n : ℕ) (ts : List Kind) → read_all (connection ∷ []) n ts ≡ read connection n ts
more_connections_all n ts = read_all_turn (connection ∷ []) n ts

pub more_connections_ending : (n : ℕ) (ts : List Kind) → IsOther (k.Symbol s.Comma) ts
    → read more_connections n ts ≡ behind s.CloseParen ts
unfolding behind read machine.reads
more_connections_ending n [] h0 = refl
more_connections_ending n (k.Symbol s.Comma ∷ ts) h0 = absurd (h0 refl)
more_connections_ending n (k.Symbol s.CloseParen ∷ ts) h0 = refl
more_connections_ending n (t ∷ ts) h0 = refl

pub more_header_parameters_comma_all : (n : ℕ) (ts : List Kind)
    → read more_header_parameters n (k.Symbol s.Comma ∷ ts) ≡
    then (read_all (optional_parameter ∷ parameter) n ts) (λ r. read more_header_parameters n r)
more_header_parameters_comma_all n ts = tail_comma more_header_parameters (optional_parameter ∷ parameter) n ts refl

pub more_header_parameters_all : (n : ℕ) (ts : List Kind)
    → read_all (optional_parameter ∷ parameter) n ts ≡
    then (read optional_parameter n ts) (λ r.
    then (read shape n r) (λ q. then (read name n q) (λ u. then (read (sign s.Equal) n u) (λ v. read expr n v))))
more_header_parameters_all n ts = read_all_turn (optional_parameter ∷ parameter) n ts

pub more_header_parameters_ending : (n : ℕ) (ts : List Kind) → IsOther (k.Symbol s.Comma) ts
    → read more_header_parameters n ts ≡ behind s.CloseParen ts
unfolding behind read machine.reads
more_header_parameters_ending n [] h0 = refl
more_header_parameters_ending n (k.Symbol s.Comma ∷ ts) h0 = absurd (h0 refl)
more_header_parameters_ending n (k.Symbol s.CloseParen ∷ ts) h0 = refl
more_header_parameters_ending n (t ∷ ts) h0 = refl

pub more_ports_comma_all : (n : ℕ) (ts : List Kind)
    → read more_ports n (k.Symbol s.Comma ∷ ts) ≡ then (read_all (port ∷ []) n ts) (λ r. read more_ports n r)
more_ports_comma_all n ts = tail_comma more_ports (port ∷ []) n ts refl

pub more_ports_all : (n : ℕ) (ts : List Kind) → read_all (port ∷ []) n ts ≡ read port n ts
more_ports_all n ts = read_all_turn (port ∷ []) n ts

pub more_ports_ending : (n : ℕ) (ts : List Kind) → IsOther (k.Symbol s.Comma) ts
    → read more_ports n ts ≡ behind s.CloseParen ts
unfolding behind read machine.reads
more_ports_ending n [] h0 = refl
more_ports_ending n (k.Symbol s.Comma ∷ ts) h0 = absurd (h0 refl)
more_ports_ending n (k.Symbol s.CloseParen ∷ ts) h0 = refl
more_ports_ending n (t ∷ ts) h0 = refl

pub ruleset tails = (
  attributes_all,
  declared_names_all,
  names_all,
  parameters_all,
  assignments_all,
  more_connections_all,
  more_header_parameters_all,
  more_ports_all,
)
