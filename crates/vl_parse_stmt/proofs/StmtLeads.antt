-- What is read of a statement, by what its first token begins.
use Rattle.std.proofs.Common.{◌≡◌, ℕ, zero, suc, ◌+◌, ◌-◌, ◌≤◌, ◌<◌, Bool, true, false, List, [], ◌∷◌, ◌++◌, length}
use Rattle.std.proofs.Common.{refl, sym, ap, ◌∙◌, subst, arith}
use Rattle.std.specs.Prelude.{Result, Ok, Err, Option, Some, None}
use Rattle.fv_text.specs.declared.kind.Kind.{Kind}
use Rattle.fv_text.specs.declared.kind.Kind.TheVariants as k
use Rattle.fv_text.specs.declared.keyword.Keyword.{Keyword}
use Rattle.fv_text.specs.declared.keyword.Keyword.TheVariants as w
use Rattle.fv_text.specs.declared.symbol.Symbol.{Symbol}
use Rattle.fv_text.specs.declared.symbol.Symbol.TheVariants as s
use Rattle.vl_tree.specs.declared.stmt.CaseKind.{CaseKind}
use Rattle.vl_tree.specs.declared.stmt.CaseKind.TheVariants as c
use Rattle.vl_tree.specs.StmtSpelling.{case_word}
use Rattle.vl_parse_grammar.specs.Machine.{syntax, deep, then}
use Rattle.vl_parse_grammar.specs.Machine as machine
use Rattle.vl_parse_grammar.specs.Grammar.{Rule, Outcome, expand, ends, read, sign, selects, in_parens, target, targets}
use Rattle.vl_parse_grammar.specs.Grammar.{stmt, block, otherwise, assign_sign, first_arm}
use Rattle.vl_parse_stmt.specs.declared.stmt.StmtLead.{StmtLead}
use Rattle.vl_parse_stmt.specs.declared.stmt.StmtLead.TheVariants as lead
use Rattle.vl_parse_stmt.specs.StmtLead.{stmt_lead_of}
use Rattle.vl_parse_cursor.specs.Next.{IsOther}
use Rattle.vl_parse_cursor.specs.Parts.{row_read, row_deep, row_bad}
use Rattle.vl_parse_stmt.proofs.StmtRows.{stmt_begin, stmt_begin_deep, stmt_if, stmt_if_deep, stmt_case, stmt_case_deep}
use Rattle.vl_parse_stmt.proofs.StmtRows.{stmt_casez, stmt_casez_deep, stmt_assume, stmt_semicolon}

pub kind_begin : (t : Kind) → stmt_lead_of t ≡ lead.Begin → t ≡ k.Keyword w.Begin
kind_begin (k.Keyword w.Begin) h = refl
kind_begin (k.Symbol s.Semicolon) h = cc
kind_begin t h = cc

pub kind_if : (t : Kind) → stmt_lead_of t ≡ lead.If → t ≡ k.Keyword w.If
kind_if (k.Keyword w.If) h = refl
kind_if (k.Symbol s.Semicolon) h = cc
kind_if t h = cc

pub kind_case : (t : Kind) (c : CaseKind) → stmt_lead_of t ≡ lead.Case c → t ≡ k.Keyword (case_word c)
kind_case (k.Keyword w.Case) c.Case h = refl
kind_case (k.Keyword w.Casez) c.Casez h = refl
kind_case (k.Symbol s.Semicolon) c h = cc
kind_case t c h = cc

pub kind_assume : (t : Kind) → stmt_lead_of t ≡ lead.Assume → t ≡ k.Keyword w.Assume
kind_assume (k.Keyword w.Assume) h = refl
kind_assume (k.Symbol s.Semicolon) h = cc
kind_assume t h = cc

pub kind_semicolon : (t : Kind) → stmt_lead_of t ≡ lead.Semicolon → t ≡ k.Symbol s.Semicolon
kind_semicolon (k.Symbol s.Semicolon) h = refl
kind_semicolon (k.Keyword w.Begin) h = cc
kind_semicolon t h = cc

pub lead_begin : (n : ℕ) (t : Kind) (ts : List Kind) → stmt_lead_of t ≡ lead.Begin → 0 < n
    → read stmt n (t ∷ ts) ≡ read block (n - 1) ts
lead_begin n t ts h l = rw (kind_begin t h) (stmt_begin n ts l)

pub lead_begin_deep : (n : ℕ) (t : Kind) (ts : List Kind) → stmt_lead_of t ≡ lead.Begin → n ≡ 0
    → read stmt n (t ∷ ts) ≡ Err (deep (suc (length ts)))
lead_begin_deep n t ts h l = rw (kind_begin t h) (stmt_begin_deep n ts l)

pub lead_if : (n : ℕ) (t : Kind) (ts : List Kind) → stmt_lead_of t ≡ lead.If → 0 < n
    → read stmt n (t ∷ ts) ≡ then (read in_parens (n - 1) ts)
    (λ r. then (read stmt (n - 1) r) (λ q. read otherwise (n - 1) q))
lead_if n t ts h l = rw (kind_if t h) (stmt_if n ts l)

pub lead_if_deep : (n : ℕ) (t : Kind) (ts : List Kind) → stmt_lead_of t ≡ lead.If → n ≡ 0
    → read stmt n (t ∷ ts) ≡ Err (deep (suc (length ts)))
lead_if_deep n t ts h l = rw (kind_if t h) (stmt_if_deep n ts l)

word_case : (n : ℕ) (c : CaseKind) (ts : List Kind) → 0 < n
    → read stmt n (k.Keyword (case_word c) ∷ ts) ≡ then (read in_parens (n - 1) ts) (λ r. read (first_arm c) (n - 1) r)
word_case n c.Case ts l = stmt_case n ts l
word_case n c.Casez ts l = stmt_casez n ts l

word_case_deep : (n : ℕ) (c : CaseKind) (ts : List Kind) → n ≡ 0
    → read stmt n (k.Keyword (case_word c) ∷ ts) ≡ Err (deep (suc (length ts)))
word_case_deep n c.Case ts l = stmt_case_deep n ts l
word_case_deep n c.Casez ts l = stmt_casez_deep n ts l

pub lead_case : (n : ℕ) (t : Kind) (ts : List Kind) (c : CaseKind) → stmt_lead_of t ≡ lead.Case c → 0 < n
    → read stmt n (t ∷ ts) ≡ then (read in_parens (n - 1) ts) (λ r. read (first_arm c) (n - 1) r)
lead_case n t ts c h l = rw (kind_case t c h) (word_case n c ts l)

pub lead_case_deep : (n : ℕ) (t : Kind) (ts : List Kind) (c : CaseKind) → stmt_lead_of t ≡ lead.Case c → n ≡ 0
    → read stmt n (t ∷ ts) ≡ Err (deep (suc (length ts)))
lead_case_deep n t ts c h l = rw (kind_case t c h) (word_case_deep n c ts l)

pub lead_assume : (n : ℕ) (t : Kind) (ts : List Kind) → stmt_lead_of t ≡ lead.Assume
    → read stmt n (t ∷ ts) ≡ then (read in_parens n ts) (λ r. read (sign s.Semicolon) n r)
lead_assume n t ts h = rw (kind_assume t h) (stmt_assume n ts)

pub lead_semicolon : (n : ℕ) (t : Kind) (ts : List Kind) → stmt_lead_of t ≡ lead.Semicolon
    → read stmt n (t ∷ ts) ≡ Ok ts
lead_semicolon n t ts h = rw (kind_semicolon t h) (stmt_semicolon n ts)

then_then : (a : Outcome) (f g : List Kind → Outcome) → then (then a f) g ≡ then a (λ r. then (f r) g)
then_then (Ok r) f g = refl
then_then (Err e) f g = refl

pub lead_other : (n : ℕ) (t : Kind) (ts : List Kind) → stmt_lead_of t ≡ lead.Other → (t ≡ k.Symbol s.OpenAttribute → ⊥)
    → read stmt n (t ∷ ts) ≡ then (read target n (t ∷ ts)) (λ r. read assign_sign n r)
unfolding read machine.reads
lead_other n (k.Name text) ts h i =
    row_read stmt n (k.Name text) ts 0 _ refl (omega arith)
    ∙ ap (λ a. then a (λ r. read assign_sign n r)) (sym (row_read target n (k.Name text) ts 0 _ refl (omega arith)))
lead_other zero (k.Symbol s.OpenBrace) ts h i = refl
lead_other (suc n) (k.Symbol s.OpenBrace) ts h i =
    row_read stmt (suc n) (k.Symbol s.OpenBrace) ts 1 _ refl (omega arith)
    ∙ sym (then_then (read target (suc n - 1) ts) (λ r. read targets (suc n - 1) r) (λ q. read assign_sign (suc n) q))
    ∙ ap (λ a. then a (λ r. read assign_sign (suc n) r))
    (sym (row_read target (suc n) (k.Symbol s.OpenBrace) ts 1 _ refl (omega arith)))
lead_other n (k.Symbol s.OpenAttribute) ts h i = absurd (i refl)
lead_other n (k.Symbol s.Semicolon) ts h i = cc
lead_other n (k.Keyword w.Begin) ts h i = cc
lead_other n (k.Keyword w.If) ts h i = cc
lead_other n (k.Keyword w.Case) ts h i = cc
lead_other n (k.Keyword w.Casez) ts h i = cc
lead_other n (k.Keyword w.Assume) ts h i = cc
lead_other n t ts h i = refl

pub stmt_none : (n : ℕ) → read stmt n [] ≡ Err (syntax 0)
unfolding read machine.reads
stmt_none n = refl

pub ruleset stmt_leads = (
  stmt_none,
  lead_begin,
  lead_begin_deep,
  lead_if,
  lead_if_deep,
  lead_case,
  lead_case_deep,
  lead_assume,
  lead_semicolon,
  lead_other,
)
