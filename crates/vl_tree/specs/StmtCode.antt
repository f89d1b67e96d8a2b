-- Between functions: A code for statements: each is written as a tree with labels, and read back. Rule of this
-- project.
use Rattle.std.specs.Prelude.{◌≡◌, refl, ℕ, Bool, List, [], Option, ◌⊎◌}
use Rattle.std.specs.Coded.{Coded, code_by, coded_ℕ, coded_bool, coded_list, coded_option, coded×, coded⊎}
use Rattle.std.proofs.Common.{inl, inr}
use base.Stored.{coded_unit}
use Rattle.fv_text.specs.Rose.{Rose, Roses, node, coded_rose}
use Rattle.fv_text.specs.Rose as r
use Rattle.fv_text.specs.declared.pos.Pos.{Pos}
use Rattle.fv_text.specs.contracts.pos.Pos as pos
use Rattle.vl_tree.specs.declared.stmt.CaseKind.{CaseKind}
use Rattle.vl_tree.specs.contracts.stmt.CaseKind as cases
use Rattle.vl_tree.specs.declared.stmt.AssignKind.{AssignKind}
use Rattle.vl_tree.specs.contracts.stmt.AssignKind as assigns
use Rattle.vl_tree.specs.Attributes.{Attributes, attributes_code}
use Rattle.vl_tree.specs.Expr.{Expr}
use Rattle.vl_tree.specs.ExprCode.{expr_code}
use Rattle.vl_tree.specs.Lval.{Lval}
use Rattle.vl_tree.specs.LvalCode.{lval_code}
use Rattle.vl_tree.specs.Stmt.{
  Stmt,
  Stmts,
  Arms,
  begin,
  if_only,
  if_else,
  case,
  assign,
  assume,
  empty,
  no_stmts,
  more_stmts,
  no_arms,
  labels,
  default,
}

-- what a statement has besides its parts
abbrev What : Type 0
What = Option (List ℕ) ⊎ (Expr ⊎ ((CaseKind × Expr)
    ⊎ ((Lval × (AssignKind × Expr)) ⊎ (Expr ⊎ Unit {0}))))

-- of a statement, or of an arm
abbrev Label : Type 0
Label = (Attributes × (Pos × What)) ⊎ (Pos × (List Expr ⊎ Bool))

abbrev what_code : Coded What
what_code = coded⊎ (coded_option (coded_list coded_ℕ))
    (coded⊎ expr_code (coded⊎ (coded× cases.the_row.coded expr_code)
    (coded⊎ (coded× lval_code (coded× assigns.the_row.coded expr_code)) (coded⊎ expr_code coded_unit))))

abbrev label_code : Coded Label
label_code = coded⊎ (coded× attributes_code (coded× pos.the_row.coded what_code))
    (coded× pos.the_row.coded (coded⊎ (coded_list expr_code) coded_bool))

abbrev one : Rose Label → Roses Label
one a = r.more a r.none

abbrev mutual
  to : Stmt → Rose Label
  to (begin attrs p label ss) = node (inl (attrs, (p, inl label))) (to_stmts ss)
  to (if_only attrs p c a) = node (inl (attrs, (p, inr (inl c)))) (one (to a))
  to (if_else attrs p c a b) = node (inl (attrs, (p, inr (inl c)))) (r.more (to a) (one (to b)))
  to (case attrs p kind e arms) = node (inl (attrs, (p, inr (inr (inl (kind, e)))))) (to_arms arms)
  to (assign attrs p l kind e) = node (inl (attrs, (p, inr (inr (inr (inl (l, (kind, e)))))))) r.none
  to (assume attrs p e) = node (inl (attrs, (p, inr (inr (inr (inr (inl e))))))) r.none
  to (empty attrs p) = node (inl (attrs, (p, inr (inr (inr (inr (inr tt))))))) r.none

  to_stmts : Stmts → Roses Label
  to_stmts no_stmts = r.none
  to_stmts (more_stmts s ss) = r.more (to s) (to_stmts ss)

  to_arms : Arms → Roses Label
  to_arms no_arms = r.none
  to_arms (labels p es s arms) = r.more (node (inr (p, inl es)) (one (to s))) (to_arms arms)
  to_arms (default p colon s arms) = r.more (node (inr (p, inr colon)) (one (to s))) (to_arms arms)

abbrev mutual
  back : Rose Label → Stmt
  back (node (inl (attrs, (p, inl label))) ts) = begin attrs p label (backs ts)
  back (node (inl (attrs, (p, inr (inl c)))) (r.more a r.none)) = if_only attrs p c (back a)
  back (node (inl (attrs, (p, inr (inl c)))) (r.more a (r.more b ts))) = if_else attrs p c (back a) (back b)
  back (node (inl (attrs, (p, inr (inr (inl (kind, e)))))) ts) = case attrs p kind e (back_arms ts)
  back (node (inl (attrs, (p, inr (inr (inr (inl (l, (kind, e)))))))) ts) = assign attrs p l kind e
  back (node (inl (attrs, (p, inr (inr (inr (inr (inl e))))))) ts) = assume attrs p e
  back (node (inl (attrs, (p, what))) ts) = empty attrs p
  back (node (inr (p, what)) ts) = empty [] p

  backs : Roses Label → Stmts
  backs r.none = no_stmts
  backs (r.more t ts) = more_stmts (back t) (backs ts)

  back_arms : Roses Label → Arms
  back_arms (r.more (node (inr (p, inl es)) (r.more s us)) ts) = labels p es (back s) (back_arms ts)
  back_arms (r.more (node (inr (p, inr colon)) (r.more s us)) ts) = default p colon (back s) (back_arms ts)
  back_arms ts = no_arms

mutual
  pub back-to : (s : Stmt) → back (to s) ≡ s
  back-to (begin attrs p label ss) = λ i. begin attrs p label (backs-to ss i)
  back-to (if_only attrs p c a) = λ i. if_only attrs p c (back-to a i)
  back-to (if_else attrs p c a b) = λ i. if_else attrs p c (back-to a i) (back-to b i)
  back-to (case attrs p kind e arms) = λ i. case attrs p kind e (back_arms-to arms i)
  back-to (assign attrs p l kind e) = refl
  back-to (assume attrs p e) = refl
  back-to (empty attrs p) = refl

  pub backs-to : (ss : Stmts) → backs (to_stmts ss) ≡ ss
  backs-to no_stmts = refl
  backs-to (more_stmts s ss) = λ i. more_stmts (back-to s i) (backs-to ss i)

  pub back_arms-to : (arms : Arms) → back_arms (to_arms arms) ≡ arms
  back_arms-to no_arms = refl
  back_arms-to (labels p es s arms) = λ i. labels p es (back-to s i) (back_arms-to arms i)
  back_arms-to (default p colon s arms) = λ i. default p colon (back-to s i) (back_arms-to arms i)

abbrev pub stmt_code : Coded Stmt
stmt_code = code_by (Rose Label) (coded_rose label_code) to back back-to
