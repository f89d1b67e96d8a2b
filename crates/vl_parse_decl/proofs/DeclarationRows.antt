-- What is read of targets, attributes, declarations, ports and module heads, row by row.
use Rattle.std.proofs.Common.{◌≡◌, ℕ, zero, suc, ◌+◌, ◌-◌, ◌≤◌, ◌<◌, Bool, true, false, List, [], ◌∷◌, ◌++◌, length}
use Rattle.std.proofs.Common.{refl, sym, ap, ◌∙◌, arith}
use Rattle.std.specs.Prelude.{Result, Ok, Err, Option, Some, None, map}
use Rattle.fv_text.specs.declared.kind.Kind.{Kind}
use Rattle.fv_text.specs.declared.kind.Kind.TheVariants as k
use Rattle.fv_text.specs.declared.keyword.Keyword.{Keyword}
use Rattle.fv_text.specs.declared.keyword.Keyword.TheVariants as w
use Rattle.fv_text.specs.declared.symbol.Symbol.{Symbol}
use Rattle.fv_text.specs.declared.symbol.Symbol.TheVariants as s
use Rattle.vl_parse_grammar.specs.Machine as machine
use Rattle.vl_parse_grammar.specs.Machine.{Row, Move, take, pop, bad, syntax, deep, then}
use Rattle.vl_parse_grammar.specs.Grammar.{Rule, Outcome, expand, ends, read, read_all, sign, the_parameter, name, expr}
use Rattle.vl_parse_grammar.specs.Grammar.{selects, value, target, targets, attributes, range, shape, declared_name}
use Rattle.vl_parse_grammar.specs.Grammar.{declared_names, names, parameters, parameter, assignment, assignments, stmt}
use Rattle.vl_parse_grammar.specs.Grammar.{item, module_head, module_ports, header_parameters, more_header_parameters}
use Rattle.vl_parse_grammar.specs.Grammar.{optional_parameter, first_port, port, more_ports, full_port, net, connection}
use Rattle.vl_parse_grammar.specs.Grammar.{more_connections, on_shape, on_range, on_full_port, many}
use Rattle.vl_parse_decl.specs.declared.attribute.Before.{Before}
use Rattle.vl_parse_decl.specs.declared.attribute.Before.TheVariants as before
use Rattle.vl_parse_decl.specs.Before.{rule_of}
use Rattle.vl_parse_decl.specs.Tails.{attributes_all}
use Rattle.vl_parse_cursor.specs.Next.{IsOther, IsNoName, behind, behind_name}
use Rattle.vl_parse_cursor.specs.Parts.{row_read, row_deep, row_popped, row_bad, same_row, in_turn, less, many_read}
use Rattle.vl_parse_cursor.proofs.Tokens.{sign_row, name_row, name_end, behind_here, behind_wrong, kinds_length}

pub target_brace : (n : ℕ) (ts : List Kind) → 0 < n
    → read target n (k.Symbol s.OpenBrace ∷ ts) ≡ then (read target (n - 1) ts) (λ r. read targets (n - 1) r)
target_brace n ts l = row_read target n (k.Symbol s.OpenBrace) ts 1 _ refl l

pub target_brace_deep : (n : ℕ) (ts : List Kind) → n ≡ 0
    → read target n (k.Symbol s.OpenBrace ∷ ts) ≡ Err (deep (suc (length ts)))
target_brace_deep n ts l = row_deep target n (k.Symbol s.OpenBrace) ts 1 _ refl (omega (arith, l))

pub target_name : (n : ℕ) (ts : List Kind) → IsOther (k.Symbol s.OpenBrace) ts
    → read target n ts ≡ then (behind_name ts) (λ r. read selects n r)
unfolding behind_name read machine.reads
target_name n [] h0 = refl
target_name n (k.Symbol s.OpenBrace ∷ ts) h0 = absurd (h0 refl)
target_name n (k.Name text ∷ ts) h0 = row_read target n (k.Name text) ts 0 _ refl (omega arith)
target_name n (t ∷ ts) h0 = refl

pub targets_comma : (n : ℕ) (ts : List Kind)
    → read targets n (k.Symbol s.Comma ∷ ts) ≡ then (read target n ts) (λ r. read targets n r)
targets_comma n ts = row_read targets n (k.Symbol s.Comma) ts 0 _ refl (omega arith)

pub targets_end : (n : ℕ) (ts : List Kind) → IsOther (k.Symbol s.Comma) ts → read targets n ts ≡ behind s.CloseBrace ts
unfolding behind read machine.reads
targets_end n [] h0 = refl
targets_end n (k.Symbol s.Comma ∷ ts) h0 = absurd (h0 refl)
targets_end n (k.Symbol s.CloseBrace ∷ ts) h0 = refl
targets_end n (t ∷ ts) h0 = refl

pub stmt_attributes : (n : ℕ) (ts : List Kind) → 0 < n
    → read stmt n (k.Symbol s.OpenAttribute ∷ ts) ≡
    then (read name (n - 1) ts) (λ r. then (read value (n - 1) r)
    (λ q. then (read attributes (n - 1) q) (λ u. read stmt n u)))
stmt_attributes n ts l = row_read stmt n (k.Symbol s.OpenAttribute) ts 1 _ refl l

pub stmt_attributes_deep : (n : ℕ) (ts : List Kind) → n ≡ 0
    → read stmt n (k.Symbol s.OpenAttribute ∷ ts) ≡ Err (deep (suc (length ts)))
stmt_attributes_deep n ts l = row_deep stmt n (k.Symbol s.OpenAttribute) ts 1 _ refl (omega (arith, l))

pub item_attributes : (n : ℕ) (ts : List Kind) → 0 < n
    → read item n (k.Symbol s.OpenAttribute ∷ ts) ≡
    then (read name (n - 1) ts) (λ r. then (read value (n - 1) r)
    (λ q. then (read attributes (n - 1) q) (λ u. read item n u)))
item_attributes n ts l = row_read item n (k.Symbol s.OpenAttribute) ts 1 _ refl l

pub item_attributes_deep : (n : ℕ) (ts : List Kind) → n ≡ 0
    → read item n (k.Symbol s.OpenAttribute ∷ ts) ≡ Err (deep (suc (length ts)))
item_attributes_deep n ts l = row_deep item n (k.Symbol s.OpenAttribute) ts 1 _ refl (omega (arith, l))

pub full_port_attributes : (n : ℕ) (ts : List Kind) → 0 < n
    → read full_port n (k.Symbol s.OpenAttribute ∷ ts) ≡
    then (read name (n - 1) ts) (λ r. then (read value (n - 1) r)
    (λ q. then (read attributes (n - 1) q) (λ u. read full_port n u)))
full_port_attributes n ts l = row_read full_port n (k.Symbol s.OpenAttribute) ts 1 _ refl l

pub full_port_attributes_deep : (n : ℕ) (ts : List Kind) → n ≡ 0
    → read full_port n (k.Symbol s.OpenAttribute ∷ ts) ≡ Err (deep (suc (length ts)))
full_port_attributes_deep n ts l = row_deep full_port n (k.Symbol s.OpenAttribute) ts 1 _ refl (omega (arith, l))

pub attributes_comma : (n : ℕ) (ts : List Kind)
    → read attributes n (k.Symbol s.Comma ∷ ts) ≡
    then (read name n ts) (λ r. then (read value n r) (λ q. read attributes n q))
attributes_comma n ts = row_read attributes n (k.Symbol s.Comma) ts 0 _ refl (omega arith)

pub attributes_end : (n : ℕ) (ts : List Kind) → IsOther (k.Symbol s.Comma) ts
    → read attributes n ts ≡ behind s.CloseAttribute ts
unfolding behind read machine.reads
attributes_end n [] h0 = refl
attributes_end n (k.Symbol s.Comma ∷ ts) h0 = absurd (h0 refl)
attributes_end n (k.Symbol s.CloseAttribute ∷ ts) h0 = refl
attributes_end n (t ∷ ts) h0 = refl

pub value_row : (n : ℕ) (ts : List Kind) → read value n (k.Symbol s.Equal ∷ ts) ≡ read expr n ts
value_row n ts = row_read value n (k.Symbol s.Equal) ts 0 _ refl (omega arith)

pub value_none : (n : ℕ) (ts : List Kind) → IsOther (k.Symbol s.Equal) ts → read value n ts ≡ Ok ts
unfolding read machine.reads
value_none n [] h0 = refl
value_none n (k.Symbol s.Equal ∷ ts) h0 = absurd (h0 refl)
value_none n (t ∷ ts) h0 = refl

pub range_row : (n : ℕ) (ts : List Kind) → 0 < n
    → read range n (k.Symbol s.OpenBracket ∷ ts) ≡
    then (read expr (n - 1) ts) (λ r. then (read (sign s.Colon) (n - 1) r)
    (λ q. then (read expr (n - 1) q) (λ u. read (sign s.CloseBracket) n u)))
range_row n ts l = row_read range n (k.Symbol s.OpenBracket) ts 1 _ refl l

pub range_row_deep : (n : ℕ) (ts : List Kind) → n ≡ 0
    → read range n (k.Symbol s.OpenBracket ∷ ts) ≡ Err (deep (suc (length ts)))
range_row_deep n ts l = row_deep range n (k.Symbol s.OpenBracket) ts 1 _ refl (omega (arith, l))

pub range_none : (n : ℕ) (ts : List Kind) → IsOther (k.Symbol s.OpenBracket) ts → read range n ts ≡ Ok ts
unfolding read machine.reads
range_none n [] h0 = refl
range_none n (k.Symbol s.OpenBracket ∷ ts) h0 = absurd (h0 refl)
range_none n (t ∷ ts) h0 = refl

pub shape_signed : (n : ℕ) (ts : List Kind) → read shape n (k.Keyword w.Signed ∷ ts) ≡ read range n ts
shape_signed n ts = row_read shape n (k.Keyword w.Signed) ts 0 _ refl (omega arith)

shape_on : (t : Kind) → (t ≡ k.Keyword w.Signed → ⊥) → on_shape t ≡ on_range t
shape_on (k.Keyword w.Signed) h = absurd (h refl)
shape_on (k.Keyword found) h = refl
shape_on t h = refl

pub shape_none : (n : ℕ) (ts : List Kind) → IsOther (k.Keyword w.Signed) ts → read shape n ts ≡ read range n ts
unfolding read machine.reads
shape_none n [] h = refl
shape_none n (t ∷ ts) h = same_row shape range n t ts (shape_on t h)

pub declared_name_row : (n : ℕ) (ts : List Kind)
    → read declared_name n ts ≡ then (behind_name ts) (λ r. then (read range n r) (λ q. read value n q))
unfolding behind_name read machine.reads
declared_name_row n [] = refl
declared_name_row n (k.Name text ∷ ts) = row_read declared_name n (k.Name text) ts 0 _ refl (omega arith)
declared_name_row n (t ∷ ts) = refl

pub declared_names_comma : (n : ℕ) (ts : List Kind)
    → read declared_names n (k.Symbol s.Comma ∷ ts) ≡ then (read declared_name n ts) (λ r. read declared_names n r)
declared_names_comma n ts = row_read declared_names n (k.Symbol s.Comma) ts 0 _ refl (omega arith)

pub declared_names_end : (n : ℕ) (ts : List Kind) → IsOther (k.Symbol s.Comma) ts
    → read declared_names n ts ≡ behind s.Semicolon ts
unfolding behind read machine.reads
declared_names_end n [] h0 = refl
declared_names_end n (k.Symbol s.Comma ∷ ts) h0 = absurd (h0 refl)
declared_names_end n (k.Symbol s.Semicolon ∷ ts) h0 = refl
declared_names_end n (t ∷ ts) h0 = refl

pub names_comma : (n : ℕ) (ts : List Kind)
    → read names n (k.Symbol s.Comma ∷ ts) ≡ then (read name n ts) (λ r. read names n r)
names_comma n ts = row_read names n (k.Symbol s.Comma) ts 0 _ refl (omega arith)

pub names_end : (n : ℕ) (ts : List Kind) → IsOther (k.Symbol s.Comma) ts → read names n ts ≡ behind s.Semicolon ts
unfolding behind read machine.reads
names_end n [] h0 = refl
names_end n (k.Symbol s.Comma ∷ ts) h0 = absurd (h0 refl)
names_end n (k.Symbol s.Semicolon ∷ ts) h0 = refl
names_end n (t ∷ ts) h0 = refl

pub parameters_comma : (n : ℕ) (ts : List Kind)
    → read parameters n (k.Symbol s.Comma ∷ ts) ≡
    then (read shape n ts) (λ r. then (read name n r)
    (λ q. then (read (sign s.Equal) n q) (λ u. then (read expr n u) (λ v. read parameters n v))))
parameters_comma n ts = row_read parameters n (k.Symbol s.Comma) ts 0 _ refl (omega arith)

pub parameters_end : (n : ℕ) (ts : List Kind) → IsOther (k.Symbol s.Comma) ts
    → read parameters n ts ≡ behind s.Semicolon ts
unfolding behind read machine.reads
parameters_end n [] h0 = refl
parameters_end n (k.Symbol s.Comma ∷ ts) h0 = absurd (h0 refl)
parameters_end n (k.Symbol s.Semicolon ∷ ts) h0 = refl
parameters_end n (t ∷ ts) h0 = refl

pub assignments_comma : (n : ℕ) (ts : List Kind)
    → read assignments n (k.Symbol s.Comma ∷ ts) ≡
    then (read target n ts) (λ r. then (read (sign s.Equal) n r)
    (λ q. then (read expr n q) (λ u. read assignments n u)))
assignments_comma n ts = row_read assignments n (k.Symbol s.Comma) ts 0 _ refl (omega arith)

pub assignments_end : (n : ℕ) (ts : List Kind) → IsOther (k.Symbol s.Comma) ts
    → read assignments n ts ≡ behind s.Semicolon ts
unfolding behind read machine.reads
assignments_end n [] h0 = refl
assignments_end n (k.Symbol s.Comma ∷ ts) h0 = absurd (h0 refl)
assignments_end n (k.Symbol s.Semicolon ∷ ts) h0 = refl
assignments_end n (t ∷ ts) h0 = refl

pub module_head_hash : (n : ℕ) (ts : List Kind)
    → read module_head n (k.Symbol s.Hash ∷ ts) ≡ then (read header_parameters n ts) (λ r. read module_ports n r)
module_head_hash n ts = row_read module_head n (k.Symbol s.Hash) ts 0 _ refl (omega arith)

module_head_on : (t : Kind) → (t ≡ k.Symbol s.Hash → ⊥) → expand module_head t ≡ expand module_ports t
module_head_on (k.Symbol s.Hash) h = absurd (h refl)
module_head_on (k.Symbol s.OpenParen) h = refl
module_head_on (k.Symbol w) h = refl
module_head_on t h = refl

pub module_head_none : (n : ℕ) (ts : List Kind) → IsOther (k.Symbol s.Hash) ts
    → read module_head n ts ≡ read module_ports n ts
unfolding read machine.reads
module_head_none n [] h = refl
module_head_none n (t ∷ ts) h = same_row module_head module_ports n t ts (module_head_on t h)

pub module_ports_row : (n : ℕ) (ts : List Kind) → 0 < n
    → read module_ports n (k.Symbol s.OpenParen ∷ ts) ≡
    then (read first_port (n - 1) ts) (λ r. read (sign s.Semicolon) n r)
module_ports_row n ts l = row_read module_ports n (k.Symbol s.OpenParen) ts 1 _ refl l

pub module_ports_row_deep : (n : ℕ) (ts : List Kind) → n ≡ 0
    → read module_ports n (k.Symbol s.OpenParen ∷ ts) ≡ Err (deep (suc (length ts)))
module_ports_row_deep n ts l = row_deep module_ports n (k.Symbol s.OpenParen) ts 1 _ refl (omega (arith, l))

pub module_ports_none : (n : ℕ) (ts : List Kind) → IsOther (k.Symbol s.OpenParen) ts
    → read module_ports n ts ≡ behind s.Semicolon ts
unfolding behind read machine.reads
module_ports_none n [] h0 = refl
module_ports_none n (k.Symbol s.OpenParen ∷ ts) h0 = absurd (h0 refl)
module_ports_none n (k.Symbol s.Semicolon ∷ ts) h0 = refl
module_ports_none n (t ∷ ts) h0 = refl

pub header_row : (n : ℕ) (ts : List Kind) → 0 < n
    → read header_parameters n (k.Symbol s.OpenParen ∷ ts) ≡
    then (read the_parameter (n - 1) ts) (λ r.
    then (read shape (n - 1) r) (λ q. then (read name (n - 1) q)
    (λ u. then (read (sign s.Equal) (n - 1) u)
    (λ v. then (read expr (n - 1) v) (λ x. read more_header_parameters (n - 1) x)))))
header_row n ts l = row_read header_parameters n (k.Symbol s.OpenParen) ts 1 _ refl l

pub header_row_deep : (n : ℕ) (ts : List Kind) → n ≡ 0
    → read header_parameters n (k.Symbol s.OpenParen ∷ ts) ≡ Err (deep (suc (length ts)))
header_row_deep n ts l = row_deep header_parameters n (k.Symbol s.OpenParen) ts 1 _ refl (omega (arith, l))

pub header_wrong : (n : ℕ) (ts : List Kind) → IsOther (k.Symbol s.OpenParen) ts
    → read header_parameters n ts ≡ Err (syntax (length ts))
unfolding read machine.reads
header_wrong n [] h0 = refl
header_wrong n (k.Symbol s.OpenParen ∷ ts) h0 = absurd (h0 refl)
header_wrong n (t ∷ ts) h0 = refl

pub the_parameter_row : (n : ℕ) (ts : List Kind) → read the_parameter n (k.Keyword w.Parameter ∷ ts) ≡ Ok ts
the_parameter_row n ts = row_read the_parameter n (k.Keyword w.Parameter) ts 0 _ refl (omega arith)

pub the_parameter_wrong : (n : ℕ) (ts : List Kind) → IsOther (k.Keyword w.Parameter) ts
    → read the_parameter n ts ≡ Err (syntax (length ts))
unfolding read machine.reads
the_parameter_wrong n [] h0 = refl
the_parameter_wrong n (k.Keyword w.Parameter ∷ ts) h0 = absurd (h0 refl)
the_parameter_wrong n (t ∷ ts) h0 = refl

pub optional_parameter_row : (n : ℕ) (ts : List Kind) → read optional_parameter n (k.Keyword w.Parameter ∷ ts) ≡ Ok ts
optional_parameter_row n ts = row_read optional_parameter n (k.Keyword w.Parameter) ts 0 _ refl (omega arith)

pub optional_parameter_none : (n : ℕ) (ts : List Kind) → IsOther (k.Keyword w.Parameter) ts
    → read optional_parameter n ts ≡ Ok ts
unfolding read machine.reads
optional_parameter_none n [] h0 = refl
optional_parameter_none n (k.Keyword w.Parameter ∷ ts) h0 = absurd (h0 refl)
optional_parameter_none n (t ∷ ts) h0 = refl

pub more_header_parameters_comma : (n : ℕ) (ts : List Kind)
    → read more_header_parameters n (k.Symbol s.Comma ∷ ts) ≡
    then (read optional_parameter n ts) (λ r.
    then (read shape n r) (λ q. then (read name n q)
    (λ u. then (read (sign s.Equal) n u) (λ v. then (read expr n v) (λ x. read more_header_parameters n x)))))
more_header_parameters_comma n ts = row_read more_header_parameters n (k.Symbol s.Comma) ts 0 _ refl (omega arith)

pub more_header_parameters_end : (n : ℕ) (ts : List Kind) → IsOther (k.Symbol s.Comma) ts
    → read more_header_parameters n ts ≡ behind s.CloseParen ts
unfolding behind read machine.reads
more_header_parameters_end n [] h0 = refl
more_header_parameters_end n (k.Symbol s.Comma ∷ ts) h0 = absurd (h0 refl)
more_header_parameters_end n (k.Symbol s.CloseParen ∷ ts) h0 = refl
more_header_parameters_end n (t ∷ ts) h0 = refl

pub first_port_end : (n : ℕ) (ts : List Kind) → read first_port n (k.Symbol s.CloseParen ∷ ts) ≡ Ok ts
first_port_end n ts = row_read first_port n (k.Symbol s.CloseParen) ts 0 _ refl (omega arith)

full_never : (t : Kind) → on_full_port t ≡ pop → ⊥
full_never (k.Symbol s.OpenAttribute) h = cc
full_never (k.Keyword w.Input) h = cc
full_never t h = cc

first_port_on : (t : Kind) → (t ≡ k.Symbol s.CloseParen → ⊥) → expand first_port t ≡ many more_ports (on_full_port t)
first_port_on (k.Symbol s.CloseParen) h = absurd (h refl)
first_port_on t h = refl

pub first_port_none : (n : ℕ) (ts : List Kind) → IsOther (k.Symbol s.CloseParen) ts
    → read first_port n ts ≡ then (read full_port n ts) (λ r. read more_ports n r)
unfolding read machine.reads
first_port_none n [] h = refl
first_port_none n (t ∷ ts) h =
    many_read first_port more_ports full_port n t ts (on_full_port t) (first_port_on t h) refl (full_never t)

port_on : (t : Kind) (ts : List Kind) → IsNoName (t ∷ ts) → expand port t ≡ expand full_port t
port_on (k.Name text) ts h = absurd h
port_on t ts h = refl

pub port_none : (n : ℕ) (ts : List Kind) → IsNoName ts → read port n ts ≡ read full_port n ts
unfolding read machine.reads
port_none n [] h = refl
port_none n (t ∷ ts) h = same_row port full_port n t ts (port_on t ts h)

pub full_port_wrong : (n : ℕ) (ts : List Kind) → IsOther (k.Symbol s.OpenAttribute) ts
    → IsOther (k.Keyword w.Input) ts → IsOther (k.Keyword w.Output) ts → read full_port n ts ≡ Err (syntax (length ts))
unfolding read machine.reads
full_port_wrong n [] h0 h1 h2 = refl
full_port_wrong n (k.Symbol s.OpenAttribute ∷ ts) h0 h1 h2 = absurd (h0 refl)
full_port_wrong n (k.Keyword w.Input ∷ ts) h0 h1 h2 = absurd (h1 refl)
full_port_wrong n (k.Keyword w.Output ∷ ts) h0 h1 h2 = absurd (h2 refl)
full_port_wrong n (t ∷ ts) h0 h1 h2 = refl

pub full_port_input : (n : ℕ) (ts : List Kind)
    → read full_port n (k.Keyword w.Input ∷ ts) ≡
    then (read net n ts) (λ r. then (read shape n r) (λ q. then (read name n q) (λ u. read value n u)))
full_port_input n ts = row_read full_port n (k.Keyword w.Input) ts 0 _ refl (omega arith)

pub full_port_output : (n : ℕ) (ts : List Kind)
    → read full_port n (k.Keyword w.Output ∷ ts) ≡
    then (read net n ts) (λ r. then (read shape n r) (λ q. then (read name n q) (λ u. read value n u)))
full_port_output n ts = row_read full_port n (k.Keyword w.Output) ts 0 _ refl (omega arith)

pub port_name : (text : List ℕ) (n : ℕ) (ts : List Kind) → read port n (k.Name text ∷ ts) ≡ read value n ts
port_name text n ts = row_read port n (k.Name text) ts 0 _ refl (omega arith)

pub more_connections_comma : (n : ℕ) (ts : List Kind)
    → read more_connections n (k.Symbol s.Comma ∷ ts) ≡ then (read connection n ts) (λ r. read more_connections n r)
more_connections_comma n ts = row_read more_connections n (k.Symbol s.Comma) ts 0 _ refl (omega arith)

pub more_connections_end : (n : ℕ) (ts : List Kind) → IsOther (k.Symbol s.Comma) ts
    → read more_connections n ts ≡ behind s.CloseParen ts
unfolding behind read machine.reads
more_connections_end n [] h0 = refl
more_connections_end n (k.Symbol s.Comma ∷ ts) h0 = absurd (h0 refl)
more_connections_end n (k.Symbol s.CloseParen ∷ ts) h0 = refl
more_connections_end n (t ∷ ts) h0 = refl

pub more_ports_comma : (n : ℕ) (ts : List Kind)
    → read more_ports n (k.Symbol s.Comma ∷ ts) ≡ then (read port n ts) (λ r. read more_ports n r)
more_ports_comma n ts = row_read more_ports n (k.Symbol s.Comma) ts 0 _ refl (omega arith)

pub more_ports_end : (n : ℕ) (ts : List Kind) → IsOther (k.Symbol s.Comma) ts
    → read more_ports n ts ≡ behind s.CloseParen ts
unfolding behind read machine.reads
more_ports_end n [] h0 = refl
more_ports_end n (k.Symbol s.Comma ∷ ts) h0 = absurd (h0 refl)
more_ports_end n (k.Symbol s.CloseParen ∷ ts) h0 = refl
more_ports_end n (t ∷ ts) h0 = refl

pub net_wire : (n : ℕ) (ts : List Kind) → read net n (k.Keyword w.Wire ∷ ts) ≡ Ok ts
net_wire n ts = row_read net n (k.Keyword w.Wire) ts 0 _ refl (omega arith)

pub net_reg : (n : ℕ) (ts : List Kind) → read net n (k.Keyword w.Reg ∷ ts) ≡ Ok ts
net_reg n ts = row_read net n (k.Keyword w.Reg) ts 0 _ refl (omega arith)

pub net_none : (n : ℕ) (ts : List Kind) → IsOther (k.Keyword w.Wire) ts → IsOther (k.Keyword w.Reg) ts
    → read net n ts ≡ Ok ts
unfolding read machine.reads
net_none n [] h0 h1 = refl
net_none n (k.Keyword w.Wire ∷ ts) h0 h1 = absurd (h0 refl)
net_none n (k.Keyword w.Reg ∷ ts) h0 h1 = absurd (h1 refl)
net_none n (t ∷ ts) h0 h1 = refl

then_three : (a : Outcome) (f g h : List Kind → Outcome)
    → then a (λ r. then (f r) (λ q. then (g q) h)) ≡ then (then (then a f) g) h
then_three (Ok r) f g h = two (f r)
  where
    two : (b : Outcome) → then b (λ q. then (g q) h) ≡ then (then b g) h
    two (Ok q) = refl
    two (Err e) = refl
then_three (Err e) f g h = refl

regrouped : (all : List Kind → Outcome) (x : Rule) (n : ℕ) (ts : List Kind)
    → ((us : List Kind) → all us ≡ then (read name (n - 1) us) (λ r. read value (n - 1) r))
    → then (read name (n - 1) ts) (λ r. then (read value (n - 1) r)
    (λ q. then (read attributes (n - 1) q) (λ u. read x n u)))
    ≡ then (then (all ts) (λ r. read attributes (n - 1) r)) (λ q. read x n q)
regrouped all x n ts e =
    then_three (read name (n - 1) ts) (λ r. read value (n - 1) r) (λ r. read attributes (n - 1) r) (λ q. read x n q)
    ∙ ap (λ a. then (then a (λ r. read attributes (n - 1) r)) (λ q. read x n q)) (sym (e ts))

-- attributes before an item, a statement or a port
pub attributed_row : (b : Before) (n : ℕ) (ts : List Kind) → 0 < n
    → read (rule_of b) n (k.Symbol s.OpenAttribute ∷ ts) ≡
    then (then (read_all (name ∷ value ∷ []) (n - 1) ts) (λ r. read attributes (n - 1) r))
    (λ q. read (rule_of b) n q)
attributed_row before.Item n ts l =
    item_attributes n ts l ∙ regrouped (read_all (name ∷ value ∷ []) (n - 1)) item n ts (attributes_all (n - 1))
attributed_row before.Stmt n ts l =
    stmt_attributes n ts l ∙ regrouped (read_all (name ∷ value ∷ []) (n - 1)) stmt n ts (attributes_all (n - 1))
attributed_row before.Port n ts l = full_port_attributes n ts l
    ∙ regrouped (read_all (name ∷ value ∷ []) (n - 1)) full_port n ts (attributes_all (n - 1))

pub attributed_deep : (b : Before) (n : ℕ) (ts : List Kind) → n ≡ 0
    → read (rule_of b) n (k.Symbol s.OpenAttribute ∷ ts) ≡ Err (deep (suc (length ts)))
attributed_deep before.Item n ts l = item_attributes_deep n ts l
attributed_deep before.Stmt n ts l = stmt_attributes_deep n ts l
attributed_deep before.Port n ts l = full_port_attributes_deep n ts l

pub ruleset of_attributed = (attributed_row, attributed_deep)

pub target_none : (n : ℕ) → read target n [] ≡ Err (syntax 0)
unfolding read machine.reads
target_none n = refl

pub ruleset of_target = (target_none, target_brace, target_brace_deep, target_name)

pub ruleset of_targets = (targets_comma, targets_end)

pub ruleset of_stmt = (stmt_attributes, stmt_attributes_deep)

pub ruleset of_item = (item_attributes, item_attributes_deep)

pub ruleset of_full_port =
    (full_port_attributes, full_port_attributes_deep, full_port_wrong, full_port_input, full_port_output)

pub ruleset of_attributes = (attributes_comma, attributes_end)

pub ruleset of_value = (value_row, value_none)

pub ruleset of_range = (range_row, range_row_deep, range_none)

pub ruleset of_shape = (shape_signed, shape_none)

pub ruleset of_declared_name = (declared_name_row)

pub ruleset of_declared_names = (declared_names_comma, declared_names_end)

pub ruleset of_names = (names_comma, names_end)

pub ruleset of_parameters = (parameters_comma, parameters_end)

pub ruleset of_assignments = (assignments_comma, assignments_end)

pub ruleset of_module_head = (module_head_hash, module_head_none)

pub ruleset of_module_ports = (module_ports_row, module_ports_row_deep, module_ports_none)

pub ruleset of_header_parameters = (header_row, header_row_deep, header_wrong)

pub ruleset of_the_parameter = (the_parameter_row, the_parameter_wrong)

pub ruleset of_optional_parameter = (optional_parameter_row, optional_parameter_none)

pub ruleset of_more_header_parameters = (more_header_parameters_comma, more_header_parameters_end)

pub ruleset of_first_port = (first_port_end, first_port_none)

pub ruleset of_port = (port_none, port_name)

pub ruleset of_more_connections = (more_connections_comma, more_connections_end)

pub ruleset of_more_ports = (more_ports_comma, more_ports_end)

pub ruleset of_net = (net_wire, net_reg, net_none)

pub ruleset basics = (sign_row, name_row, name_end, kinds_length)
