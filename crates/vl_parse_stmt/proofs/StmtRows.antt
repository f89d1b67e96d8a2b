-- What is read of statements, row by row.
use Rattle.std.proofs.Common.{◌≡◌, ℕ, zero, suc, ◌+◌, ◌-◌, ◌≤◌, ◌<◌, Bool, true, false, List, [], ◌∷◌, ◌++◌, length}
use Rattle.std.proofs.Common.{refl, sym, ap, ◌∙◌, arith}
use Rattle.std.specs.Prelude.{Result, Ok, Err, Option, Some, None, map}
use Rattle.fv_text.specs.declared.kind.Kind.{Kind}
use Rattle.fv_text.specs.declared.kind.Kind.TheVariants as k
use Rattle.fv_text.specs.declared.keyword.Keyword.{Keyword}
use Rattle.fv_text.specs.declared.keyword.Keyword.TheVariants as w
use Rattle.fv_text.specs.declared.symbol.Symbol.{Symbol}
use Rattle.fv_text.specs.declared.symbol.Symbol.TheVariants as s
use Rattle.vl_parse_grammar.specs.Machine as machine
use Rattle.vl_parse_grammar.specs.Machine.{Row, Move, take, pop, bad, syntax, deep, then}
use Rattle.fv_text.specs.declared.number.Number.{Number}
use Rattle.vl_tree.specs.declared.stmt.CaseKind.{CaseKind}
use Rattle.vl_tree.specs.declared.stmt.CaseKind.TheVariants as c
use Rattle.vl_parse_grammar.specs.Grammar.{Rule, Outcome, expand, ends, read, sign, name, expr, selects, in_parens}
use Rattle.vl_parse_grammar.specs.Grammar.{target}
use Rattle.vl_parse_grammar.specs.Grammar.{targets, stmt, stmts, block, otherwise, assign_sign, first_arm, arms, label}
use Rattle.vl_parse_grammar.specs.Grammar.{labels, behind_default, initial_stmt, initial_stmts, on_stmt, on_arm}
use Rattle.vl_parse_grammar.specs.Grammar.{on_label}
use Rattle.vl_parse_grammar.specs.Grammar.{on_initial_stmt}
use Rattle.vl_parse_cursor.specs.Next.{IsOther, behind, behind_name}
use Rattle.vl_parse_cursor.specs.Parts.{row_read, row_deep, row_popped, row_bad, same_row, in_turn, less, many_read}
use Rattle.vl_parse_cursor.proofs.Tokens.{sign_row, name_row, behind_here, behind_wrong, kinds_length}
use Rattle.vl_parse_grammar.specs.Grammar.{many}

then_then : (a : Outcome) (f g : List Kind → Outcome) → then (then a f) g ≡ then a (λ r. then (f r) g)
then_then (Ok r) f g = refl
then_then (Err e) f g = refl

pub stmt_begin : (n : ℕ) (ts : List Kind) → 0 < n → read stmt n (k.Keyword w.Begin ∷ ts) ≡ read block (n - 1) ts
stmt_begin n ts l = row_read stmt n (k.Keyword w.Begin) ts 1 _ refl l

pub stmt_begin_deep : (n : ℕ) (ts : List Kind) → n ≡ 0
    → read stmt n (k.Keyword w.Begin ∷ ts) ≡ Err (deep (suc (length ts)))
stmt_begin_deep n ts l = row_deep stmt n (k.Keyword w.Begin) ts 1 _ refl (omega (arith, l))

pub stmt_if : (n : ℕ) (ts : List Kind) → 0 < n
    → read stmt n (k.Keyword w.If ∷ ts) ≡ then (read in_parens (n - 1) ts)
    (λ r. then (read stmt (n - 1) r) (λ q. read otherwise (n - 1) q))
stmt_if n ts l = row_read stmt n (k.Keyword w.If) ts 1 _ refl l

pub stmt_if_deep : (n : ℕ) (ts : List Kind) → n ≡ 0 → read stmt n (k.Keyword w.If ∷ ts) ≡ Err (deep (suc (length ts)))
stmt_if_deep n ts l = row_deep stmt n (k.Keyword w.If) ts 1 _ refl (omega (arith, l))

pub stmt_case : (n : ℕ) (ts : List Kind) → 0 < n
    → read stmt n (k.Keyword w.Case ∷ ts) ≡ then (read in_parens (n - 1) ts) (λ r. read (first_arm c.Case) (n - 1) r)
stmt_case n ts l = row_read stmt n (k.Keyword w.Case) ts 1 _ refl l

pub stmt_case_deep : (n : ℕ) (ts : List Kind) → n ≡ 0
    → read stmt n (k.Keyword w.Case ∷ ts) ≡ Err (deep (suc (length ts)))
stmt_case_deep n ts l = row_deep stmt n (k.Keyword w.Case) ts 1 _ refl (omega (arith, l))

pub stmt_casez : (n : ℕ) (ts : List Kind) → 0 < n
    → read stmt n (k.Keyword w.Casez ∷ ts) ≡ then (read in_parens (n - 1) ts) (λ r. read (first_arm c.Casez) (n - 1) r)
stmt_casez n ts l = row_read stmt n (k.Keyword w.Casez) ts 1 _ refl l

pub stmt_casez_deep : (n : ℕ) (ts : List Kind) → n ≡ 0
    → read stmt n (k.Keyword w.Casez ∷ ts) ≡ Err (deep (suc (length ts)))
stmt_casez_deep n ts l = row_deep stmt n (k.Keyword w.Casez) ts 1 _ refl (omega (arith, l))

pub stmt_assume : (n : ℕ) (ts : List Kind)
    → read stmt n (k.Keyword w.Assume ∷ ts) ≡ then (read in_parens n ts) (λ r. read (sign s.Semicolon) n r)
stmt_assume n ts = row_read stmt n (k.Keyword w.Assume) ts 0 _ refl (omega arith)

pub stmt_semicolon : (n : ℕ) (ts : List Kind) → read stmt n (k.Symbol s.Semicolon ∷ ts) ≡ Ok ts
stmt_semicolon n ts = row_read stmt n (k.Symbol s.Semicolon) ts 0 _ refl (omega arith)

stmt_never : (t : Kind) → on_stmt t ≡ pop → ⊥
stmt_never (k.Keyword w.Begin) h = cc
stmt_never (k.Symbol s.Semicolon) h = cc
stmt_never t h = cc

initial_stmt_never : (t : Kind) → on_initial_stmt t ≡ pop → ⊥
initial_stmt_never (k.Keyword w.Begin) h = cc
initial_stmt_never (k.Symbol s.OpenBrace) h = cc
initial_stmt_never t h = cc

pub stmts_end : (n : ℕ) (ts : List Kind) → read stmts n (k.Keyword w.End ∷ ts) ≡ Ok ts
stmts_end n ts = row_read stmts n (k.Keyword w.End) ts 0 _ refl (omega arith)

stmts_on : (t : Kind) → (t ≡ k.Keyword w.End → ⊥) → expand stmts t ≡ many stmts (on_stmt t)
stmts_on (k.Keyword w.End) h = absurd (h refl)
stmts_on t h = refl

pub stmts_on_row : (n : ℕ) (ts : List Kind) → IsOther (k.Keyword w.End) ts
    → read stmts n ts ≡ then (read stmt n ts) (λ r. read stmts n r)
unfolding read machine.reads
stmts_on_row n [] h = refl
stmts_on_row n (t ∷ ts) h = many_read stmts stmts stmt n t ts (on_stmt t) (stmts_on t h) refl (stmt_never t)

pub initial_stmts_end : (n : ℕ) (ts : List Kind) → read initial_stmts n (k.Keyword w.End ∷ ts) ≡ Ok ts
initial_stmts_end n ts = row_read initial_stmts n (k.Keyword w.End) ts 0 _ refl (omega arith)

initial_stmts_on : (t : Kind) → (t ≡ k.Keyword w.End → ⊥)
    → expand initial_stmts t ≡ many initial_stmts (on_initial_stmt t)
initial_stmts_on (k.Keyword w.End) h = absurd (h refl)
initial_stmts_on t h = refl

pub initial_stmts_on_row : (n : ℕ) (ts : List Kind) → IsOther (k.Keyword w.End) ts
    → read initial_stmts n ts ≡ then (read initial_stmt n ts) (λ r. read initial_stmts n r)
unfolding read machine.reads
initial_stmts_on_row n [] h = refl
initial_stmts_on_row n (t ∷ ts) h = many_read initial_stmts initial_stmts initial_stmt n t ts (on_initial_stmt t)
    (initial_stmts_on t h) refl (initial_stmt_never t)

pub block_colon : (n : ℕ) (ts : List Kind)
    → read block n (k.Symbol s.Colon ∷ ts) ≡ then (read name n ts) (λ r. read stmts n r)
block_colon n ts = row_read block n (k.Symbol s.Colon) ts 0 _ refl (omega arith)

block_on : (t : Kind) → (t ≡ k.Symbol s.Colon → ⊥) → expand block t ≡ expand stmts t
block_on (k.Symbol s.Colon) h = absurd (h refl)
block_on t h = refl

pub block_none : (n : ℕ) (ts : List Kind) → IsOther (k.Symbol s.Colon) ts → read block n ts ≡ read stmts n ts
unfolding read machine.reads
block_none n [] h = refl
block_none n (t ∷ ts) h = same_row block stmts n t ts (block_on t h)

pub otherwise_else : (n : ℕ) (ts : List Kind) → read otherwise n (k.Keyword w.Else ∷ ts) ≡ read stmt n ts
otherwise_else n ts = row_read otherwise n (k.Keyword w.Else) ts 0 _ refl (omega arith)

pub otherwise_none : (n : ℕ) (ts : List Kind) → IsOther (k.Keyword w.Else) ts → read otherwise n ts ≡ Ok ts
unfolding read machine.reads
otherwise_none n [] h0 = refl
otherwise_none n (k.Keyword w.Else ∷ ts) h0 = absurd (h0 refl)
otherwise_none n (t ∷ ts) h0 = refl

pub assign_equal : (n : ℕ) (ts : List Kind)
    → read assign_sign n (k.Symbol s.Equal ∷ ts) ≡ then (read expr n ts) (λ r. read (sign s.Semicolon) n r)
assign_equal n ts = row_read assign_sign n (k.Symbol s.Equal) ts 0 _ refl (omega arith)

pub assign_less : (n : ℕ) (ts : List Kind)
    → read assign_sign n (k.Symbol s.LessEqual ∷ ts) ≡ then (read expr n ts) (λ r. read (sign s.Semicolon) n r)
assign_less n ts = row_read assign_sign n (k.Symbol s.LessEqual) ts 0 _ refl (omega arith)

pub assign_wrong : (n : ℕ) (ts : List Kind) → IsOther (k.Symbol s.Equal) ts → IsOther (k.Symbol s.LessEqual) ts
    → read assign_sign n ts ≡ Err (syntax (length ts))
unfolding read machine.reads
assign_wrong n [] h0 h1 = refl
assign_wrong n (k.Symbol s.Equal ∷ ts) h0 h1 = absurd (h0 refl)
assign_wrong n (k.Symbol s.LessEqual ∷ ts) h0 h1 = absurd (h1 refl)
assign_wrong n (t ∷ ts) h0 h1 = refl

pub initial_begin : (n : ℕ) (ts : List Kind) → 0 < n
    → read initial_stmt n (k.Keyword w.Begin ∷ ts) ≡ read initial_stmts (n - 1) ts
initial_begin n ts l = row_read initial_stmt n (k.Keyword w.Begin) ts 1 _ refl l

pub initial_begin_deep : (n : ℕ) (ts : List Kind) → n ≡ 0
    → read initial_stmt n (k.Keyword w.Begin ∷ ts) ≡ Err (deep (suc (length ts)))
initial_begin_deep n ts l = row_deep initial_stmt n (k.Keyword w.Begin) ts 1 _ refl (omega (arith, l))

initial_target : (n : ℕ) (t : Kind) (ts : List Kind) → (t ≡ k.Keyword w.Begin → ⊥)
    → read initial_stmt n (t ∷ ts) ≡ then (read target n (t ∷ ts))
    (λ r. then (read (sign s.Equal) n r) (λ q. then (read expr n q) (λ u. read (sign s.Semicolon) n u)))
unfolding read machine.reads
initial_target n (k.Name text) ts h =
    row_read initial_stmt n (k.Name text) ts 0 _ refl (omega arith)
    ∙ ap (λ a. then a (λ r. then (read (sign s.Equal) n r)
    (λ q. then (read expr n q) (λ u. read (sign s.Semicolon) n u))))
    (sym (row_read target n (k.Name text) ts 0 _ refl (omega arith)))
initial_target zero (k.Symbol s.OpenBrace) ts h = refl
initial_target (suc n) (k.Symbol s.OpenBrace) ts h =
    row_read initial_stmt (suc n) (k.Symbol s.OpenBrace) ts 1 _ refl (omega arith)
    ∙ sym (then_then (read target (suc n - 1) ts) (λ r. read targets (suc n - 1) r)
    (λ r. then (read (sign s.Equal) (suc n) r)
    (λ q. then (read expr (suc n) q) (λ u. read (sign s.Semicolon) (suc n) u))))
    ∙ ap (λ a. then a (λ r. then (read (sign s.Equal) (suc n) r)
    (λ q. then (read expr (suc n) q) (λ u. read (sign s.Semicolon) (suc n) u))))
    (sym (row_read target (suc n) (k.Symbol s.OpenBrace) ts 1 _ refl (omega arith)))
initial_target n (k.Keyword w.Begin) ts h = absurd (h refl)
initial_target n t ts h = refl

pub initial_other : (n : ℕ) (ts : List Kind) → IsOther (k.Keyword w.Begin) ts
    → read initial_stmt n ts ≡ then (read target n ts)
    (λ r. then (read (sign s.Equal) n r) (λ q. then (read expr n q) (λ u. read (sign s.Semicolon) n u)))
unfolding read machine.reads
initial_other n [] h = refl
initial_other n (t ∷ ts) h = initial_target n t ts h

pub default_colon : (n : ℕ) (ts : List Kind) → read behind_default n (k.Symbol s.Colon ∷ ts) ≡ read stmt n ts
default_colon n ts = row_read behind_default n (k.Symbol s.Colon) ts 0 _ refl (omega arith)

default_on : (t : Kind) → (t ≡ k.Symbol s.Colon → ⊥) → expand behind_default t ≡ expand stmt t
default_on (k.Symbol s.Colon) h = absurd (h refl)
default_on t h = refl

pub default_none : (n : ℕ) (ts : List Kind) → IsOther (k.Symbol s.Colon) ts → read behind_default n ts ≡ read stmt n ts
unfolding read machine.reads
default_none n [] h = refl
default_none n (t ∷ ts) h = same_row behind_default stmt n t ts (default_on t h)

pub ruleset of_stmt = (
  stmt_begin,
  stmt_begin_deep,
  stmt_if,
  stmt_if_deep,
  stmt_case,
  stmt_case_deep,
  stmt_casez,
  stmt_casez_deep,
  stmt_assume,
  stmt_semicolon,
)

pub ruleset of_stmts = (stmts_end, stmts_on_row)

pub ruleset of_initial_stmts = (initial_stmts_end, initial_stmts_on_row)

pub ruleset of_block = (block_colon, block_none)

pub ruleset of_otherwise = (otherwise_else, otherwise_none)

pub ruleset of_assign_sign = (assign_equal, assign_less, assign_wrong)

pub initial_none : (n : ℕ) → read initial_stmt n [] ≡ Err (syntax 0)
unfolding read machine.reads
initial_none n = refl

pub ruleset of_initial_stmt = (initial_none, initial_begin, initial_begin_deep, initial_other)

pub ruleset of_behind_default = (default_colon)

pub ruleset of_default = (default_none)

pub ruleset basics = (sign_row, name_row, kinds_length)
