-- Meaning: Expressions, targets and statements with full names, and with numbers in place of constants: as they stand
-- in a design without hierarchy. IEEE 1364-2005, section 12.5.
use Rattle.std.specs.Prelude.{ℕ, List, [], ◌∷◌}
use Rattle.vl_tree.specs.Expr.{
  Expr,
  Exprs,
  Selects,
  number,
  name,
  paren,
  unary,
  binary,
  conditional,
  concat,
  repeat,
  cast,
  none,
  more,
  whole,
  bit,
  part,
  indexed,
}
use Rattle.vl_tree.specs.Lval.{Lval, Lvals, named, joined, no_lvals, more_lvals}
use Rattle.vl_tree.specs.Stmt.{
  Stmt,
  Stmts,
  Arms,
  begin,
  if_only,
  if_else,
  case,
  assign,
  assume,
  empty,
  no_stmts,
  more_stmts,
  no_arms,
  labels,
  default,
}
use Rattle.vl_mean.specs.Constants.{settled, settled_selects}
use Rattle.vl_mean.specs.Scopes.{Scope, constant_in, full}

-- ---- other names

module _ (f : List ℕ → List ℕ) where
  abbrev mutual
    pub renamed : Expr → Expr
    renamed (number p n) = number p n
    renamed (name p text ss) = name p (f text) (renamed_selects ss)
    renamed (paren p x) = paren p (renamed x)
    renamed (unary p op x) = unary p op (renamed x)
    renamed (binary p op x y) = binary p op (renamed x) (renamed y)
    renamed (conditional p c x y) = conditional p (renamed c) (renamed x) (renamed y)
    renamed (concat p es) = concat p (renamed_exprs es)
    renamed (repeat p n es) = repeat p (renamed n) (renamed_exprs es)
    renamed (cast p to x) = cast p to (renamed x)

    pub renamed_exprs : Exprs → Exprs
    renamed_exprs none = none
    renamed_exprs (more e es) = more (renamed e) (renamed_exprs es)

    pub renamed_selects : Selects → Selects
    renamed_selects whole = whole
    renamed_selects (bit p i ss) = bit p (renamed i) (renamed_selects ss)
    renamed_selects (part p l r ss) = part p (renamed l) (renamed r) (renamed_selects ss)
    renamed_selects (indexed p s n ss) = indexed p (renamed s) (renamed n) (renamed_selects ss)

-- ---- full names

module _ (ss : List Scope) where
  abbrev pub flat_expr : Expr → Expr
  flat_expr e = renamed (full ss) (settled (constant_in ss) e)

  abbrev pub flat_selects : Selects → Selects
  flat_selects xs = renamed_selects (full ss) (settled_selects (constant_in ss) xs)

  abbrev pub flat_exprs : List Expr → List Expr
  flat_exprs [] = []
  flat_exprs (e ∷ es) = flat_expr e ∷ flat_exprs es

  abbrev mutual
    pub flat_lval : Lval → Lval
    flat_lval (named p text xs) = named p (full ss text) (flat_selects xs)
    flat_lval (joined p ls) = joined p (flat_lvals ls)

    pub flat_lvals : Lvals → Lvals
    flat_lvals no_lvals = no_lvals
    flat_lvals (more_lvals l ls) = more_lvals (flat_lval l) (flat_lvals ls)

  abbrev mutual
    pub flat_stmt : Stmt → Stmt
    flat_stmt (begin attrs p label xs) = begin attrs p label (flat_stmts xs)
    flat_stmt (if_only attrs p e x) = if_only attrs p (flat_expr e) (flat_stmt x)
    flat_stmt (if_else attrs p e x y) = if_else attrs p (flat_expr e) (flat_stmt x) (flat_stmt y)
    flat_stmt (case attrs p kind e arms) = case attrs p kind (flat_expr e) (flat_arms arms)
    flat_stmt (assign attrs p l kind e) = assign attrs p (flat_lval l) kind (flat_expr e)
    flat_stmt (assume attrs p e) = assume attrs p (flat_expr e)
    flat_stmt (empty attrs p) = empty attrs p

    pub flat_stmts : Stmts → Stmts
    flat_stmts no_stmts = no_stmts
    flat_stmts (more_stmts x xs) = more_stmts (flat_stmt x) (flat_stmts xs)

    pub flat_arms : Arms → Arms
    flat_arms no_arms = no_arms
    flat_arms (labels p es s arms) = labels p (flat_exprs es) (flat_stmt s) (flat_arms arms)
    flat_arms (default p colon s arms) = default p colon (flat_stmt s) (flat_arms arms)
