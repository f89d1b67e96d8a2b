-- Meaning: Statements as plain trees, each with the attributes before it and the place of its first token behind them.
-- IEEE 1364-2005, section A.6.
use Rattle.std.specs.Prelude.{ℕ, ◌+◌, max, Bool, List, [], ◌∷◌, Option}
use Rattle.fv_text.specs.declared.pos.Pos.{Pos}
use Rattle.vl_tree.specs.declared.stmt.CaseKind.{CaseKind}
use Rattle.vl_tree.specs.declared.stmt.AssignKind.{AssignKind}
use Rattle.vl_tree.specs.Attributes.{Attributes}
use Rattle.vl_tree.specs.Expr.{Expr}
use Rattle.vl_tree.specs.Lval.{Lval}

mutual
  pub data Stmt : Type 0 where
    begin : Attributes → Pos → Option (List ℕ) → Stmts → Stmt
    if_only : Attributes → Pos → Expr → Stmt → Stmt
    if_else : Attributes → Pos → Expr → Stmt → Stmt → Stmt
    case : Attributes → Pos → CaseKind → Expr → Arms → Stmt
    assign : Attributes → Pos → Lval → AssignKind → Expr → Stmt
    assume : Attributes → Pos → Expr → Stmt
    empty : Attributes → Pos → Stmt

  pub data Stmts : Type 0 where
    no_stmts : Stmts
    more_stmts : Stmt → Stmts → Stmts

  -- the arms of a case; a default says whether its colon is there
  pub data Arms : Type 0 where
    no_arms : Arms
    labels : Pos → List Expr → Stmt → Arms → Arms
    default : Pos → Bool → Stmt → Arms → Arms

abbrev pub stmts : List Stmt → Stmts
stmts [] = no_stmts
stmts (s ∷ ss) = more_stmts s (stmts ss)

abbrev mutual
  pub depth : Stmt → ℕ
  depth (begin attrs p label ss) = stmts_depth ss + 1
  depth (if_only attrs p c a) = depth a + 1
  depth (if_else attrs p c a b) = max (depth a) (depth b) + 1
  depth (case attrs p kind e arms) = arms_depth arms + 1
  depth (assign attrs p l kind e) = 0
  depth (assume attrs p e) = 0
  depth (empty attrs p) = 0

  pub stmts_depth : Stmts → ℕ
  stmts_depth no_stmts = 0
  stmts_depth (more_stmts s ss) = max (depth s) (stmts_depth ss)

  pub arms_depth : Arms → ℕ
  arms_depth no_arms = 0
  arms_depth (labels p es s arms) = max (depth s) (arms_depth arms)
  arms_depth (default p colon s arms) = max (depth s) (arms_depth arms)
