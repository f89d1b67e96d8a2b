-- Between functions: What functions promise each other, and what they stand on. What a token begins as the first of a
-- statement behind its attributes. IEEE 1364-2005, section A.6.4.
use Rattle.fv_text.specs.declared.kind.Kind.{Kind}
use Rattle.fv_text.specs.declared.kind.Kind.TheVariants as k
use Rattle.fv_text.specs.declared.keyword.Keyword.TheVariants as w
use Rattle.fv_text.specs.declared.symbol.Symbol.TheVariants as s
use Rattle.vl_tree.specs.declared.stmt.CaseKind.TheVariants as c
use Rattle.vl_parse_stmt.specs.declared.stmt.StmtLead.{StmtLead}
use Rattle.vl_parse_stmt.specs.declared.stmt.StmtLead.TheVariants as lead

abbrev pub stmt_lead_of : Kind → StmtLead
stmt_lead_of (k.Keyword w.Begin) = lead.Begin
stmt_lead_of (k.Keyword w.If) = lead.If
stmt_lead_of (k.Keyword w.Case) = lead.Case c.Case
stmt_lead_of (k.Keyword w.Casez) = lead.Case c.Casez
stmt_lead_of (k.Keyword w.Assume) = lead.Assume
stmt_lead_of (k.Symbol s.Semicolon) = lead.Semicolon
stmt_lead_of t = lead.Other
