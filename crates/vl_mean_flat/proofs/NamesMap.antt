-- What is asked of names follows from what is asked of them more strongly.
use Rattle.std.specs.Prelude.{ℕ, List, [], ◌∷◌}
use Rattle.vl_tree.specs.Expr.{
  Expr,
  Exprs,
  Selects,
  number,
  name,
  paren,
  unary,
  binary,
  conditional,
  concat,
  repeat,
  cast,
  none,
  more,
  whole,
  bit,
  part,
  indexed,
}
use Rattle.vl_tree.specs.Lval.{Lval, Lvals, named, joined, no_lvals, more_lvals}
use Rattle.vl_tree.specs.Stmt.{
  Stmt,
  Stmts,
  Arms,
  begin,
  if_only,
  if_else,
  case,
  assign,
  assume,
  empty,
  no_stmts,
  more_stmts,
  no_arms,
  labels,
  default,
}
use Rattle.vl_mean.specs.Constants.{settled, settled_selects}
use Rattle.vl_mean.specs.Scopes.{Scope, constant_in}
use Rattle.vl_mean_flat.specs.Names.{Names, AllNames, SelectsNames, ExprNames, ExprsNames, TargetNames, TargetsNames}
use Rattle.vl_mean_flat.specs.Names.{StmtNames, StmtsNames, ArmsNames}

module _ {P Q : List ℕ → Type 0} (f : (text : List ℕ) → P text → Q text) where
  mutual
    names_map : (e : Expr) → Names P e → Names Q e
    names_map (number p n) h = tt
    names_map (name p text ss) h = (f text h.0, selects_map ss h.1)
    names_map (paren p x) h = names_map x h
    names_map (unary p op x) h = names_map x h
    names_map (binary p op x y) h = (names_map x h.0, names_map y h.1)
    names_map (conditional p c x y) h = (names_map c h.0, (names_map x h.1.0, names_map y h.1.1))
    names_map (concat p es) h = all_map es h
    names_map (repeat p n es) h = (names_map n h.0, all_map es h.1)
    names_map (cast p to x) h = names_map x h

    all_map : (es : Exprs) → AllNames P es → AllNames Q es
    all_map none h = tt
    all_map (more e es) h = (names_map e h.0, all_map es h.1)

    selects_map : (ss : Selects) → SelectsNames P ss → SelectsNames Q ss
    selects_map whole h = tt
    selects_map (bit p i ss) h = (names_map i h.0, selects_map ss h.1)
    selects_map (part p l r ss) h = (names_map l h.0, (names_map r h.1.0, selects_map ss h.1.1))
    selects_map (indexed p s n ss) h = (names_map s h.0, (names_map n h.1.0, selects_map ss h.1.1))

  module _ (ss : List Scope) where
    pub expr_map : (e : Expr) → ExprNames P ss e → ExprNames Q ss e
    expr_map e h = names_map (settled (constant_in ss) e) h

    exprs_map : (xs : List Expr) → ExprsNames P ss xs → ExprsNames Q ss xs
    exprs_map [] h = tt
    exprs_map (e ∷ xs) h = (expr_map e h.0, exprs_map xs h.1)

    mutual
      pub target_map : (l : Lval) → TargetNames P ss l → TargetNames Q ss l
      target_map (named p text xs) h = (h.0, f text h.1, selects_map (settled_selects (constant_in ss) xs) h.2)
      target_map (joined p ls) h = targets_map ls h

      targets_map : (ls : Lvals) → TargetsNames P ss ls → TargetsNames Q ss ls
      targets_map no_lvals h = tt
      targets_map (more_lvals l ls) h = (target_map l h.0, targets_map ls h.1)

    mutual
      pub stmt_map : (s : Stmt) → StmtNames P ss s → StmtNames Q ss s
      stmt_map (begin attrs p label xs) h = stmts_map xs h
      stmt_map (if_only attrs p e x) h = (expr_map e h.0, stmt_map x h.1)
      stmt_map (if_else attrs p e x y) h = (expr_map e h.0, stmt_map x h.1, stmt_map y h.2)
      stmt_map (case attrs p kind e arms) h = (expr_map e h.0, arms_map arms h.1)
      stmt_map (assign attrs p l kind e) h = (target_map l h.0, expr_map e h.1)
      stmt_map (assume attrs p e) h = expr_map e h
      stmt_map (empty attrs p) h = tt

      stmts_map : (xs : Stmts) → StmtsNames P ss xs → StmtsNames Q ss xs
      stmts_map no_stmts h = tt
      stmts_map (more_stmts x xs) h = (stmt_map x h.0, stmts_map xs h.1)

      arms_map : (arms : Arms) → ArmsNames P ss arms → ArmsNames Q ss arms
      arms_map no_arms h = tt
      arms_map (labels p xs x arms) h = (exprs_map xs h.0, stmt_map x h.1, arms_map arms h.2)
      arms_map (default p colon x arms) h = (stmt_map x h.0, arms_map arms h.1)
