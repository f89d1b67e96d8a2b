-- Between functions: What is asked of each name in an expression, a target or a statement. Rule of this project.
use Rattle.std.specs.Prelude.{◌≡◌, ℕ, List, [], ◌∷◌, None}
use Rattle.vl_tree.specs.Expr.{
  Expr,
  Exprs,
  Selects,
  number,
  name,
  paren,
  unary,
  binary,
  conditional,
  concat,
  repeat,
  cast,
  none,
  more,
  whole,
  bit,
  part,
  indexed,
}
use Rattle.vl_tree.specs.Lval.{Lval, Lvals, named, joined, no_lvals, more_lvals}
use Rattle.vl_tree.specs.Stmt.{
  Stmt,
  Stmts,
  Arms,
  begin,
  if_only,
  if_else,
  case,
  assign,
  assume,
  empty,
  no_stmts,
  more_stmts,
  no_arms,
  labels,
  default,
}
use Rattle.vl_mean.specs.Constants.{settled, settled_selects}
use Rattle.vl_mean.specs.Scopes.{Scope, constant_in}

-- P of each name
module _ (P : List ℕ → Type 0) where
  abbrev mutual
    pub Names : Expr → Type 0
    Names (number p n) = Unit {0}
    Names (name p text ss) = P text × SelectsNames ss
    Names (paren p x) = Names x
    Names (unary p op x) = Names x
    Names (binary p op x y) = Names x × Names y
    Names (conditional p c x y) = Names c × (Names x × Names y)
    Names (concat p es) = AllNames es
    Names (repeat p n es) = Names n × AllNames es
    Names (cast p to x) = Names x

    pub AllNames : Exprs → Type 0
    AllNames none = Unit {0}
    AllNames (more e es) = Names e × AllNames es

    pub SelectsNames : Selects → Type 0
    SelectsNames whole = Unit {0}
    SelectsNames (bit p i ss) = Names i × SelectsNames ss
    SelectsNames (part p l r ss) = Names l × (Names r × SelectsNames ss)
    SelectsNames (indexed p s n ss) = Names s × (Names n × SelectsNames ss)

-- in scopes: P of each name but constants, and no target is a constant
module _ (P : List ℕ → Type 0) (ss : List Scope) where
  abbrev pub ExprNames : Expr → Type 0
  ExprNames e = Names P (settled (constant_in ss) e)

  abbrev pub ExprsNames : List Expr → Type 0
  ExprsNames [] = Unit {0}
  ExprsNames (e ∷ es) = ExprNames e × ExprsNames es

  abbrev mutual
    pub TargetNames : Lval → Type 0
    TargetNames (named p text xs) =
        (constant_in ss text ≡ None) × P text × SelectsNames P (settled_selects (constant_in ss) xs)
    TargetNames (joined p ls) = TargetsNames ls

    pub TargetsNames : Lvals → Type 0
    TargetsNames no_lvals = Unit {0}
    TargetsNames (more_lvals l ls) = TargetNames l × TargetsNames ls

  abbrev mutual
    pub StmtNames : Stmt → Type 0
    StmtNames (begin attrs p label xs) = StmtsNames xs
    StmtNames (if_only attrs p e x) = ExprNames e × StmtNames x
    StmtNames (if_else attrs p e x y) = ExprNames e × StmtNames x × StmtNames y
    StmtNames (case attrs p kind e arms) = ExprNames e × ArmsNames arms
    StmtNames (assign attrs p l kind e) = TargetNames l × ExprNames e
    StmtNames (assume attrs p e) = ExprNames e
    StmtNames (empty attrs p) = Unit {0}

    pub StmtsNames : Stmts → Type 0
    StmtsNames no_stmts = Unit {0}
    StmtsNames (more_stmts x xs) = StmtNames x × StmtsNames xs

    pub ArmsNames : Arms → Type 0
    ArmsNames no_arms = Unit {0}
    ArmsNames (labels p es x arms) = ExprsNames es × StmtNames x × ArmsNames arms
    ArmsNames (default p colon x arms) = StmtNames x × ArmsNames arms
