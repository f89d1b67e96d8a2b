-- Expressions, targets and statements: behind each of their places.
use Rattle.std.specs.Prelude.{◌≡◌, refl, List, [], ◌∷◌, ◌++◌}
use Rattle.vl_tree.specs.Expr.{Expr, Exprs, Selects, number, name, paren, unary, binary, conditional, concat, repeat}
use Rattle.vl_tree.specs.Expr.{cast, none, more, whole, bit, part, indexed}
use Rattle.vl_tree.specs.Lval.{Lval, Lvals, named, joined, no_lvals, more_lvals}
use Rattle.vl_tree.specs.Stmt.{Stmt, Stmts, Arms, begin, if_only, if_else, case, assign, assume, empty, no_stmts}
use Rattle.vl_tree.specs.Stmt.{more_stmts, no_arms, labels, default}
use Rattle.vl_elab_spec.specs.NodePlaces.{all_places, all_stmt_places, all_target_places, arm_places, expr_places}
use Rattle.vl_elab_spec.specs.NodePlaces.{label_places, select_places, stmt_places, target_places}
use Rattle.vl_elab_places.specs.declared.cursor.Cursor.{Cursor}
use Rattle.vl_elab_places.specs.Passing.{arms_passed, expr_passed, exprs_passed, labels_passed, moved, passed}
use Rattle.vl_elab_places.specs.Passing.{selects_passed, stmt_passed, stmts_passed, target_passed, targets_passed}
use Rattle.vl_elab_places.proofs.Moved.{both_pass}

mutual
  pub expr_passes : (e : Expr) (c : Cursor) → expr_passed e c ≡ passed (expr_places e) c
  expr_passes (number p n) c = refl
  expr_passes (name p text ss) c = selects_pass ss (moved 1 p c)
  expr_passes (paren p x) c = expr_passes x (moved 1 p c)
  expr_passes (unary p op x) c = expr_passes x (moved 1 p c)
  expr_passes (binary p op x y) c =
      both_pass (expr_passed x) (expr_passed y) (expr_places x) (expr_places y) (λ k. expr_passes x k)
      (λ k. expr_passes y k) (moved 1 p c)
  expr_passes (conditional p e x y) c =
      both_pass (λ k. expr_passed x (expr_passed e k)) (expr_passed y) (expr_places e ++ expr_places x) (expr_places y)
      (both_pass (expr_passed e) (expr_passed x) (expr_places e) (expr_places x) (λ k. expr_passes e k)
      (λ k. expr_passes x k)) (λ k. expr_passes y k) (moved 1 p c)
  expr_passes (concat p es) c = exprs_pass es (moved 1 p c)
  expr_passes (repeat p n es) c =
      both_pass (expr_passed n) (exprs_passed es) (expr_places n) (all_places es) (λ k. expr_passes n k)
      (λ k. exprs_pass es k) (moved 1 p c)
  expr_passes (cast p to x) c = expr_passes x (moved 1 p c)

  pub exprs_pass : (es : Exprs) (c : Cursor) → exprs_passed es c ≡ passed (all_places es) c
  exprs_pass none c = refl
  exprs_pass (more e es) c =
      both_pass (expr_passed e) (exprs_passed es) (expr_places e) (all_places es) (λ k. expr_passes e k)
      (λ k. exprs_pass es k) c

  pub selects_pass : (ss : Selects) (c : Cursor) → selects_passed ss c ≡ passed (select_places ss) c
  selects_pass whole c = refl
  selects_pass (bit p i ss) c =
      both_pass (expr_passed i) (selects_passed ss) (expr_places i) (select_places ss) (λ k. expr_passes i k)
      (λ k. selects_pass ss k) (moved 1 p c)
  selects_pass (part p l r ss) c =
      both_pass (λ k. expr_passed r (expr_passed l k)) (selects_passed ss) (expr_places l ++ expr_places r)
      (select_places ss) (both_pass (expr_passed l) (expr_passed r) (expr_places l) (expr_places r)
      (λ k. expr_passes l k) (λ k. expr_passes r k)) (λ k. selects_pass ss k) (moved 1 p c)
  selects_pass (indexed p s n ss) c =
      both_pass (λ k. expr_passed n (expr_passed s k)) (selects_passed ss) (expr_places s ++ expr_places n)
      (select_places ss) (both_pass (expr_passed s) (expr_passed n) (expr_places s) (expr_places n)
      (λ k. expr_passes s k) (λ k. expr_passes n k)) (λ k. selects_pass ss k) (moved 1 p c)

mutual
  pub target_passes : (l : Lval) (c : Cursor) → target_passed l c ≡ passed (target_places l) c
  target_passes (named p text ss) c = selects_pass ss (moved 1 p c)
  target_passes (joined p ls) c = targets_pass ls (moved 1 p c)

  pub targets_pass : (ls : Lvals) (c : Cursor) → targets_passed ls c ≡ passed (all_target_places ls) c
  targets_pass no_lvals c = refl
  targets_pass (more_lvals l ls) c =
      both_pass (target_passed l) (targets_passed ls) (target_places l) (all_target_places ls) (λ k. target_passes l k)
      (λ k. targets_pass ls k) c

pub labels_pass : (es : List Expr) (c : Cursor) → labels_passed es c ≡ passed (label_places es) c
labels_pass [] c = refl
labels_pass (e ∷ es) c =
    both_pass (expr_passed e) (labels_passed es) (expr_places e) (label_places es) (λ k. expr_passes e k)
    (λ k. labels_pass es k) c

mutual
  pub stmt_passes : (s : Stmt) (c : Cursor) → stmt_passed s c ≡ passed (stmt_places s) c
  stmt_passes (begin attrs p label xs) c = stmts_pass xs (moved 1 p c)
  stmt_passes (if_only attrs p e x) c =
      both_pass (expr_passed e) (stmt_passed x) (expr_places e) (stmt_places x) (λ k. expr_passes e k)
      (λ k. stmt_passes x k) (moved 1 p c)
  stmt_passes (if_else attrs p e x y) c =
      both_pass (λ k. stmt_passed x (expr_passed e k)) (stmt_passed y) (expr_places e ++ stmt_places x) (stmt_places y)
      (both_pass (expr_passed e) (stmt_passed x) (expr_places e) (stmt_places x) (λ k. expr_passes e k)
      (λ k. stmt_passes x k)) (λ k. stmt_passes y k) (moved 1 p c)
  stmt_passes (case attrs p kind e arms) c =
      both_pass (expr_passed e) (arms_passed arms) (expr_places e) (arm_places arms) (λ k. expr_passes e k)
      (λ k. arms_pass arms k) (moved 1 p c)
  stmt_passes (assign attrs p l kind e) c =
      both_pass (target_passed l) (expr_passed e) (target_places l) (expr_places e) (λ k. target_passes l k)
      (λ k. expr_passes e k) (moved 1 p c)
  stmt_passes (assume attrs p e) c = expr_passes e (moved 1 p c)
  stmt_passes (empty attrs p) c = refl

  pub stmts_pass : (ss : Stmts) (c : Cursor) → stmts_passed ss c ≡ passed (all_stmt_places ss) c
  stmts_pass no_stmts c = refl
  stmts_pass (more_stmts x xs) c =
      both_pass (stmt_passed x) (stmts_passed xs) (stmt_places x) (all_stmt_places xs) (λ k. stmt_passes x k)
      (λ k. stmts_pass xs k) c

  pub arms_pass : (arms : Arms) (c : Cursor) → arms_passed arms c ≡ passed (arm_places arms) c
  arms_pass no_arms c = refl
  arms_pass (labels p es x arms) c =
      both_pass (λ k. stmt_passed x (labels_passed es k)) (arms_passed arms) (label_places es ++ stmt_places x)
      (arm_places arms) (both_pass (labels_passed es) (stmt_passed x) (label_places es) (stmt_places x)
      (λ k. labels_pass es k) (λ k. stmt_passes x k)) (λ k. arms_pass arms k) c
  arms_pass (default p colon x arms) c =
      both_pass (stmt_passed x) (arms_passed arms) (stmt_places x) (arm_places arms) (λ k. stmt_passes x k)
      (λ k. arms_pass arms k) c
