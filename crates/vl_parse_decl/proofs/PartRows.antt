-- What is read of events, connections and heads of loops, row by row.
use Rattle.std.proofs.Common.{◌≡◌, ℕ, suc, ◌+◌, ◌-◌, ◌≤◌, ◌<◌, Bool, true, false, List, [], ◌∷◌, ◌++◌, length, refl}
use Rattle.std.proofs.Common.{sym, ap, ◌∙◌, arith}
use Rattle.std.specs.Prelude.{Ok, Err}
use Rattle.fv_text.specs.declared.kind.Kind.{Kind}
use Rattle.fv_text.specs.declared.kind.Kind.TheVariants as k
use Rattle.fv_text.specs.declared.keyword.Keyword.TheVariants as w
use Rattle.fv_text.specs.declared.symbol.Symbol.TheVariants as s
use Rattle.vl_parse_grammar.specs.Machine as machine
use Rattle.vl_parse_grammar.specs.Machine.{pop, bad, syntax, deep, then}
use Rattle.vl_parse_grammar.specs.Grammar.{Outcome, many, expand, read, sign, name, this_name, expr, event}
use Rattle.vl_parse_grammar.specs.Grammar.{event_inside}
use Rattle.vl_parse_grammar.specs.Grammar.{overrides, connections, first_connection, connection, more_connections}
use Rattle.vl_parse_grammar.specs.Grammar.{connected, connected_value, loop_head, loop_variable, on_operand, plain}
use Rattle.vl_parse_grammar.specs.Grammar.{take_if}
use Rattle.std.specs.Prelude.{bytes_eq}
use Rattle.std.proofs.lemmas.Slice.Eq.{bytes_eq-Decides}
use Rattle.vl_parse_cursor.specs.declared.lead.Lead.{Lead}
use Rattle.vl_parse_cursor.specs.declared.lead.Lead.TheVariants as lead
use Rattle.vl_parse_cursor.specs.Lead.{lead_of}
use Rattle.vl_parse_expr.proofs.ExprRows.{by_lead, lead_made}
use Rattle.vl_parse_decl.specs.LoopHead.{step, condition, steps}
use Rattle.vl_parse_cursor.specs.Next.{IsOther, IsNoName, behind_name}
use Rattle.vl_parse_cursor.specs.Parts.{row_read, row_deep, row_bad, many_read}

pub event_star : (n : ℕ) (ts : List Kind) → read event n (k.Symbol s.Star ∷ ts) ≡ Ok ts
event_star n ts = row_read event n (k.Symbol s.Star) ts 0 _ refl (omega arith)

pub event_joined : (n : ℕ) (ts : List Kind) → 0 < n
    → read event n (k.Symbol s.OpenAttribute ∷ ts) ≡ read (sign s.CloseParen) n ts
event_joined n ts l = row_read event n (k.Symbol s.OpenAttribute) ts 1 _ refl l

pub event_joined_deep : (n : ℕ) (ts : List Kind) → n ≡ 0
    → read event n (k.Symbol s.OpenAttribute ∷ ts) ≡ Err (deep (suc (length ts)))
event_joined_deep n ts l = row_deep event n (k.Symbol s.OpenAttribute) ts 1 _ refl (omega (arith, l))

pub event_paren : (n : ℕ) (ts : List Kind) → 0 < n
    → read event n (k.Symbol s.OpenParen ∷ ts) ≡ read event_inside (n - 1) ts
event_paren n ts l = row_read event n (k.Symbol s.OpenParen) ts 1 _ refl l

pub event_paren_deep : (n : ℕ) (ts : List Kind) → n ≡ 0
    → read event n (k.Symbol s.OpenParen ∷ ts) ≡ Err (deep (suc (length ts)))
event_paren_deep n ts l = row_deep event n (k.Symbol s.OpenParen) ts 1 _ refl (omega (arith, l))

pub event_wrong : (n : ℕ) (ts : List Kind) → IsOther (k.Symbol s.Star) ts → IsOther (k.Symbol s.OpenAttribute) ts
    → IsOther (k.Symbol s.OpenParen) ts → read event n ts ≡ Err (syntax (length ts))
unfolding read machine.reads
event_wrong n [] h0 h1 h2 = refl
event_wrong n (k.Symbol s.Star ∷ ts) h0 h1 h2 = absurd (h0 refl)
event_wrong n (k.Symbol s.OpenAttribute ∷ ts) h0 h1 h2 = absurd (h1 refl)
event_wrong n (k.Symbol s.OpenParen ∷ ts) h0 h1 h2 = absurd (h2 refl)
event_wrong n (t ∷ ts) h0 h1 h2 = refl

pub inside_star : (n : ℕ) (ts : List Kind) → read event_inside n (k.Symbol s.Star ∷ ts) ≡ read (sign s.CloseParen) n ts
inside_star n ts = row_read event_inside n (k.Symbol s.Star) ts 0 _ refl (omega arith)

pub inside_close : (n : ℕ) (ts : List Kind) → read event_inside n (k.Symbol s.CloseAttribute ∷ ts) ≡ Ok ts
inside_close n ts = row_read event_inside n (k.Symbol s.CloseAttribute) ts 0 _ refl (omega arith)

pub inside_posedge : (n : ℕ) (ts : List Kind)
    → read event_inside n (k.Keyword w.Posedge ∷ ts) ≡ then (read name n ts) (λ r. read (sign s.CloseParen) n r)
inside_posedge n ts = row_read event_inside n (k.Keyword w.Posedge) ts 0 _ refl (omega arith)

pub inside_wrong : (n : ℕ) (ts : List Kind) → IsOther (k.Symbol s.Star) ts → IsOther (k.Symbol s.CloseAttribute) ts
    → IsOther (k.Keyword w.Posedge) ts → read event_inside n ts ≡ Err (syntax (length ts))
unfolding read machine.reads
inside_wrong n [] h0 h1 h2 = refl
inside_wrong n (k.Symbol s.Star ∷ ts) h0 h1 h2 = absurd (h0 refl)
inside_wrong n (k.Symbol s.CloseAttribute ∷ ts) h0 h1 h2 = absurd (h1 refl)
inside_wrong n (k.Keyword w.Posedge ∷ ts) h0 h1 h2 = absurd (h2 refl)
inside_wrong n (t ∷ ts) h0 h1 h2 = refl

pub overrides_hash : (n : ℕ) (ts : List Kind)
    → read overrides n (k.Symbol s.Hash ∷ ts) ≡
    then (read connections n ts) (λ r. then (read name n r)
    (λ q. then (read connections n q) (λ u. read (sign s.Semicolon) n u)))
overrides_hash n ts = row_read overrides n (k.Symbol s.Hash) ts 0 _ refl (omega arith)

pub overrides_none : (n : ℕ) (ts : List Kind) → IsOther (k.Symbol s.Hash) ts
    → read overrides n ts ≡ then (behind_name ts) (λ r. then (read connections n r) (λ q. read (sign s.Semicolon) n q))
unfolding behind_name read machine.reads
overrides_none n [] h0 = refl
overrides_none n (k.Symbol s.Hash ∷ ts) h0 = absurd (h0 refl)
overrides_none n (k.Name text ∷ ts) h0 = row_read overrides n (k.Name text) ts 0 _ refl (omega arith)
overrides_none n (t ∷ ts) h0 = refl

pub connections_row : (n : ℕ) (ts : List Kind) → 0 < n
    → read connections n (k.Symbol s.OpenParen ∷ ts) ≡ read first_connection (n - 1) ts
connections_row n ts l = row_read connections n (k.Symbol s.OpenParen) ts 1 _ refl l

pub connections_row_deep : (n : ℕ) (ts : List Kind) → n ≡ 0
    → read connections n (k.Symbol s.OpenParen ∷ ts) ≡ Err (deep (suc (length ts)))
connections_row_deep n ts l = row_deep connections n (k.Symbol s.OpenParen) ts 1 _ refl (omega (arith, l))

pub connections_wrong : (n : ℕ) (ts : List Kind) → IsOther (k.Symbol s.OpenParen) ts
    → read connections n ts ≡ Err (syntax (length ts))
unfolding read machine.reads
connections_wrong n [] h0 = refl
connections_wrong n (k.Symbol s.OpenParen ∷ ts) h0 = absurd (h0 refl)
connections_wrong n (t ∷ ts) h0 = refl

pub first_connection_end : (n : ℕ) (ts : List Kind) → read first_connection n (k.Symbol s.CloseParen ∷ ts) ≡ Ok ts
first_connection_end n ts = row_read first_connection n (k.Symbol s.CloseParen) ts 0 _ refl (omega arith)

pub first_connection_dot : (n : ℕ) (ts : List Kind)
    → read first_connection n (k.Symbol s.Dot ∷ ts) ≡
    then (read name n ts) (λ r. then (read connected n r) (λ q. read more_connections n q))
first_connection_dot n ts = row_read first_connection n (k.Symbol s.Dot) ts 0 _ refl (omega arith)

pub first_connection_wrong : (n : ℕ) (ts : List Kind) → IsOther (k.Symbol s.CloseParen) ts
    → IsOther (k.Symbol s.Dot) ts → read first_connection n ts ≡ Err (syntax (length ts))
unfolding read machine.reads
first_connection_wrong n [] h0 h1 = refl
first_connection_wrong n (k.Symbol s.CloseParen ∷ ts) h0 h1 = absurd (h0 refl)
first_connection_wrong n (k.Symbol s.Dot ∷ ts) h0 h1 = absurd (h1 refl)
first_connection_wrong n (t ∷ ts) h0 h1 = refl

pub connection_row : (n : ℕ) (ts : List Kind)
    → read connection n (k.Symbol s.Dot ∷ ts) ≡ then (read name n ts) (λ r. read connected n r)
connection_row n ts = row_read connection n (k.Symbol s.Dot) ts 0 _ refl (omega arith)

pub connection_wrong : (n : ℕ) (ts : List Kind) → IsOther (k.Symbol s.Dot) ts
    → read connection n ts ≡ Err (syntax (length ts))
unfolding read machine.reads
connection_wrong n [] h0 = refl
connection_wrong n (k.Symbol s.Dot ∷ ts) h0 = absurd (h0 refl)
connection_wrong n (t ∷ ts) h0 = refl

pub connected_row : (n : ℕ) (ts : List Kind) → 0 < n
    → read connected n (k.Symbol s.OpenParen ∷ ts) ≡ read connected_value (n - 1) ts
connected_row n ts l = row_read connected n (k.Symbol s.OpenParen) ts 1 _ refl l

pub connected_row_deep : (n : ℕ) (ts : List Kind) → n ≡ 0
    → read connected n (k.Symbol s.OpenParen ∷ ts) ≡ Err (deep (suc (length ts)))
connected_row_deep n ts l = row_deep connected n (k.Symbol s.OpenParen) ts 1 _ refl (omega (arith, l))

pub connected_wrong : (n : ℕ) (ts : List Kind) → IsOther (k.Symbol s.OpenParen) ts
    → read connected n ts ≡ Err (syntax (length ts))
unfolding read machine.reads
connected_wrong n [] h0 = refl
connected_wrong n (k.Symbol s.OpenParen ∷ ts) h0 = absurd (h0 refl)
connected_wrong n (t ∷ ts) h0 = refl

pub connected_end : (n : ℕ) (ts : List Kind) → read connected_value n (k.Symbol s.CloseParen ∷ ts) ≡ Ok ts
connected_end n ts = row_read connected_value n (k.Symbol s.CloseParen) ts 0 _ refl (omega arith)

operand_never : (t : Kind) → on_operand plain 0 0 t ≡ pop → ⊥
operand_never t h = by_first (lead_of t) (sym (lead_made plain 0 0 t) ∙ h)
  where
    by_first : (l : Lead) → by_lead plain 0 0 l ≡ pop → ⊥
    by_first (lead.Number n) h = cc
    by_first lead.Name h = cc
    by_first lead.Paren h = cc
    by_first lead.Brace h = cc
    by_first (lead.Unary op) h = cc
    by_first (lead.Cast to) h = cc
    by_first lead.Nothing h = cc

connected_on : (t : Kind) → (t ≡ k.Symbol s.CloseParen → ⊥)
    → expand connected_value t ≡ many (sign s.CloseParen) (on_operand plain 0 0 t)
connected_on (k.Symbol s.CloseParen) h = absurd (h refl)
connected_on t h = refl

pub connected_none : (n : ℕ) (ts : List Kind) → IsOther (k.Symbol s.CloseParen) ts
    → read connected_value n ts ≡ then (read expr n ts) (λ r. read (sign s.CloseParen) n r)
unfolding read machine.reads
connected_none n [] h = refl
connected_none n (t ∷ ts) h = many_read connected_value (sign s.CloseParen) expr n t ts (on_operand plain 0 0 t)
    (connected_on t h) refl (operand_never t)

pub head_row : (n : ℕ) (ts : List Kind) → 0 < n
    → read loop_head n (k.Symbol s.OpenParen ∷ ts) ≡ read loop_variable (n - 1) ts
head_row n ts l = row_read loop_head n (k.Symbol s.OpenParen) ts 1 _ refl l

pub head_row_deep : (n : ℕ) (ts : List Kind) → n ≡ 0
    → read loop_head n (k.Symbol s.OpenParen ∷ ts) ≡ Err (deep (suc (length ts)))
head_row_deep n ts l = row_deep loop_head n (k.Symbol s.OpenParen) ts 1 _ refl (omega (arith, l))

pub head_wrong : (n : ℕ) (ts : List Kind) → IsOther (k.Symbol s.OpenParen) ts
    → read loop_head n ts ≡ Err (syntax (length ts))
unfolding read machine.reads
head_wrong n [] h0 = refl
head_wrong n (k.Symbol s.OpenParen ∷ ts) h0 = absurd (h0 refl)
head_wrong n (t ∷ ts) h0 = refl

then_two : (a : Outcome) (f g : List Kind → Outcome) → then a (λ r. then (f r) g) ≡ then (then a f) g
then_two (Ok r) f g = refl
then_two (Err e) f g = refl

then_three : (a : Outcome) (f g h : List Kind → Outcome)
    → then a (λ r. then (f r) (λ q. then (g q) h)) ≡ then (then a (λ r. then (f r) g)) h
then_three (Ok r) f g h = then_two (f r) g h
then_three (Err e) f g h = refl

pub variable_name : (text : List ℕ) (n : ℕ) (ts : List Kind) → read loop_variable n (k.Name text ∷ ts) ≡ steps text n ts
variable_name text n ts =
    row_read loop_variable n (k.Name text) ts 0 _ refl (omega arith)
    ∙ then_two (equal ts) value (λ b. then (stop b) (λ c. then (value c) (λ d. then (stop d) again)))
    ∙ ap (λ f. then (step n ts) f) (λ i b. then_three (stop b) value stop again i)
    ∙ ap (λ f. then (step n ts) (λ b. then (condition n b) f))
    (λ i e. ap (λ f. then (this e) f) (λ j f. then_two (equal f) value close j) i)
  where
    equal : List Kind → Outcome
    equal r = read (sign s.Equal) n r

    value : List Kind → Outcome
    value r = read expr n r

    stop : List Kind → Outcome
    stop r = read (sign s.Semicolon) n r

    close : List Kind → Outcome
    close r = read (sign s.CloseParen) n r

    this : List Kind → Outcome
    this r = read (this_name text) n r

    again : List Kind → Outcome
    again r = then (this r) (λ f. then (equal f) (λ g. then (value g) close))

pub variable_wrong : (n : ℕ) (ts : List Kind) → IsNoName ts → read loop_variable n ts ≡ Err (syntax (length ts))
unfolding read machine.reads
variable_wrong n [] h = refl
variable_wrong n (k.Name text ∷ ts) h = absurd h
variable_wrong n (t ∷ ts) h = refl

text_same : (a : List ℕ) → bytes_eq a a ≡ true
text_same a = (bytes_eq-Decides a a).1 refl

text_differs : (a b : List ℕ) (c : Bool) → bytes_eq a b ≡ c → (a ≡ b → ⊥) → take_if c ≡ bad
text_differs a b true e h = absurd (h ((bytes_eq-Decides a b).0 e))
text_differs a b false e h = refl

pub this_name_here : (text : List ℕ) (n : ℕ) (ts : List Kind) → read (this_name text) n (k.Name text ∷ ts) ≡ Ok ts
this_name_here text n ts = row_read (this_name text) n (k.Name text) ts 0 _ (ap take_if (text_same text)) (omega arith)

pub this_name_other : (text found : List ℕ) (n : ℕ) (ts : List Kind) → (found ≡ text → ⊥)
    → read (this_name text) n (k.Name found ∷ ts) ≡ Err (syntax (suc (length ts)))
this_name_other text found n ts h =
    row_bad (this_name text) n (k.Name found) ts (text_differs found text (bytes_eq found text) refl h)

pub this_name_wrong : (text : List ℕ) (n : ℕ) (t : Kind) (ts : List Kind) → ((found : List ℕ) → t ≡ k.Name found → ⊥)
    → read (this_name text) n (t ∷ ts) ≡ Err (syntax (suc (length ts)))
this_name_wrong text n (k.Name found) ts h = absurd (h found refl)
this_name_wrong text n t ts h = row_bad (this_name text) n t ts refl

pub this_name_end : (text : List ℕ) (n : ℕ) → read (this_name text) n [] ≡ Err (syntax 0)
unfolding read machine.reads
this_name_end text n = refl

pub ruleset of_this_name = (this_name_here, this_name_other, this_name_wrong, this_name_end)

pub ruleset of_event = (event_star, event_joined, event_joined_deep, event_paren, event_paren_deep, event_wrong)

pub ruleset of_event_inside = (inside_star, inside_close, inside_posedge, inside_wrong)

pub ruleset of_overrides = (overrides_hash, overrides_none)

pub ruleset of_connections = (connections_row, connections_row_deep, connections_wrong)

pub ruleset of_first_connection = (first_connection_end, first_connection_dot, first_connection_wrong)

pub ruleset of_connection = (connection_row, connection_wrong)

pub ruleset of_connected = (connected_row, connected_row_deep, connected_wrong)

pub ruleset of_connected_value = (connected_end, connected_none)

pub ruleset of_loop_head = (head_row, head_row_deep, head_wrong)

pub ruleset of_loop_variable = (variable_name, variable_wrong)
