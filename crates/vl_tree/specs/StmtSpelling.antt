-- Meaning: What statements spell, alternative by alternative. IEEE 1364-2005, section A.6, cut to this project's
-- subset.
use Rattle.std.specs.Prelude.{ℕ, List, Option, Some, None, Bool, true, false}
use Rattle.fv_text.specs.declared.keyword.Keyword.{Keyword}
use Rattle.fv_text.specs.declared.keyword.Keyword.TheVariants as w
use Rattle.fv_text.specs.declared.symbol.Symbol.{Symbol}
use Rattle.fv_text.specs.declared.symbol.Symbol.TheVariants as s
use Rattle.vl_tree.specs.declared.stmt.CaseKind.{CaseKind}
use Rattle.vl_tree.specs.declared.stmt.CaseKind.TheVariants as c
use Rattle.vl_tree.specs.declared.stmt.AssignKind.{AssignKind}
use Rattle.vl_tree.specs.declared.stmt.AssignKind.TheVariants as a
use Rattle.vl_tree.specs.DeclarationSpelling.{spell_attributes}
use Rattle.vl_tree.specs.Expr.{Expr}
use Rattle.vl_tree.specs.ExprSpelling as expr
use Rattle.vl_tree.specs.LvalSpelling as lval
use Rattle.vl_tree.specs.Phrase.{
  Phrase,
  nothing,
  ◌▸◌,
  at,
  within,
  level,
  sign,
  word,
  a_name,
  parens,
  between_commas,
}
use Rattle.vl_tree.specs.Stmt.{
  Stmt,
  Stmts,
  Arms,
  begin,
  if_only,
  if_else,
  case,
  assign,
  assume,
  empty,
  no_stmts,
  more_stmts,
  no_arms,
  labels,
  default,
}

-- `: label`, or nothing
abbrev pub spell_label : Option (List ℕ) → Phrase
spell_label None = nothing
spell_label (Some label) = sign s.Colon ▸ a_name label

abbrev pub case_word : CaseKind → Keyword
case_word c.Case = w.Case
case_word c.Casez = w.Casez

abbrev pub assign_sign : AssignKind → Symbol
assign_sign a.Blocking = s.Equal
assign_sign a.Nonblocking = s.LessEqual

abbrev pub spell_one_label : Expr → Phrase
spell_one_label e = level (expr.spell e)

-- the colon of a default, where it is there
abbrev pub spell_colon : Bool → Phrase
spell_colon true = sign s.Colon
spell_colon false = nothing

abbrev mutual
  pub spell : Stmt → Phrase
  spell (begin attrs p label ss) =
      spell_attributes attrs ▸ at p (within (word w.Begin ▸ spell_label label ▸ spell_all ss) ▸ word w.End)
  spell (if_only attrs p c x) =
      spell_attributes attrs ▸ at p (within (word w.If ▸ parens (expr.spell c) ▸ spell x))
  spell (if_else attrs p c x y) =
      spell_attributes attrs ▸ at p (within (word w.If ▸ parens (expr.spell c) ▸ spell x ▸ word w.Else
      ▸ spell y))
  spell (case attrs p kind e arms) =
      spell_attributes attrs ▸ at p (within (word (case_word kind) ▸ parens
      (expr.spell e) ▸ spell_arms arms) ▸ word w.Endcase)
  spell (assign attrs p l kind e) =
      spell_attributes attrs ▸ at p (lval.spell l ▸ sign (assign_sign kind) ▸ level (expr.spell e)
      ▸ sign s.Semicolon)
  spell (assume attrs p e) =
      spell_attributes attrs ▸ at p (word w.Assume ▸ parens (expr.spell e) ▸ sign s.Semicolon)
  spell (empty attrs p) = spell_attributes attrs ▸ at p (sign s.Semicolon)

  pub spell_all : Stmts → Phrase
  spell_all no_stmts = nothing
  spell_all (more_stmts x xs) = spell x ▸ spell_all xs

  pub spell_arms : Arms → Phrase
  spell_arms no_arms = nothing
  spell_arms (labels p es x arms) =
      at p (within (between_commas spell_one_label es ▸ sign s.Colon ▸ spell x)) ▸ spell_arms arms
  spell_arms (default p colon x arms) =
      at p (within (word w.Default ▸ spell_colon colon ▸ spell x)) ▸ spell_arms arms
