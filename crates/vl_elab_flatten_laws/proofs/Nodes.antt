-- With full names, and with numbers in place of constants, nothing has more nodes.
use Rattle.std.specs.Prelude.{◌≡◌, refl, ℕ, ◌+◌, ◌≤◌, List, [], ◌∷◌, Option, Some, None}
use Rattle.std.proofs.Common.{ap, sym, ◌∙◌, subst, arith}
use Rattle.fv_text.specs.declared.pos.Pos.{Pos}
use Rattle.vl_tree.specs.Expr.{
  Expr,
  Exprs,
  Selects,
  number,
  name,
  paren,
  unary,
  binary,
  conditional,
  concat,
  repeat,
  cast,
  none,
  more,
  whole,
  bit,
  part,
  indexed,
}
use Rattle.vl_tree.specs.Lval.{Lval, Lvals, named, joined, no_lvals, more_lvals}
use Rattle.vl_tree.specs.Stmt.{
  Stmt,
  Stmts,
  Arms,
  begin,
  if_only,
  if_else,
  case,
  assign,
  assume,
  empty,
  no_stmts,
  more_stmts,
  no_arms,
  labels,
  default,
}
use Rattle.vl_size.specs.Divisors.{valid_size}
use Rattle.vl_mean.specs.declared.const_number.Const.{Const}
use Rattle.vl_mean.specs.Constants.{named_constant, number_or, settled, settled_exprs, settled_selects, vector_of}
use Rattle.vl_mean.specs.FlatLaw.{all_nodes, all_stmt_nodes, all_target_nodes, arm_nodes, label_nodes, nodes}
use Rattle.vl_mean.specs.FlatLaw.{select_nodes}
use Rattle.vl_mean.specs.FlatLaw.{stmt_nodes, target_nodes}
use Rattle.vl_mean.specs.Scopes.{Scope, constant_in, full}
use Rattle.vl_mean_flat.specs.FullNames.{flat_arms, flat_expr, flat_exprs, flat_lval, flat_lvals, flat_selects}
use Rattle.vl_mean_flat.specs.FullNames.{flat_stmt}
use Rattle.vl_mean_flat.specs.FullNames.{flat_stmts, renamed, renamed_exprs, renamed_selects}

module _ (f : List ℕ → List ℕ) where
  mutual
    renamed_nodes : (e : Expr) → nodes (renamed f e) ≡ nodes e
    renamed_nodes (number p n) = refl
    renamed_nodes (name p text ss) = ap (λ n. n + 1) (renamed_select_nodes ss)
    renamed_nodes (paren p x) = ap (λ n. n + 1) (renamed_nodes x)
    renamed_nodes (unary p op x) = ap (λ n. n + 1) (renamed_nodes x)
    renamed_nodes (binary p op x y) = λ i. renamed_nodes x i + renamed_nodes y i + 1
    renamed_nodes (conditional p c x y) = λ i. renamed_nodes c i + renamed_nodes x i + renamed_nodes y i + 1
    renamed_nodes (concat p es) = ap (λ n. n + 1) (renamed_all_nodes es)
    renamed_nodes (repeat p n es) = λ i. renamed_nodes n i + renamed_all_nodes es i + 1
    renamed_nodes (cast p to x) = ap (λ n. n + 1) (renamed_nodes x)

    renamed_all_nodes : (es : Exprs) → all_nodes (renamed_exprs f es) ≡ all_nodes es
    renamed_all_nodes none = refl
    renamed_all_nodes (more e es) = λ i. renamed_nodes e i + renamed_all_nodes es i

    renamed_select_nodes : (ss : Selects) → select_nodes (renamed_selects f ss) ≡ select_nodes ss
    renamed_select_nodes whole = refl
    renamed_select_nodes (bit p x ss) = λ i. renamed_nodes x i + renamed_select_nodes ss i + 1
    renamed_select_nodes (part p l r ss) =
        λ i. renamed_nodes l i + renamed_nodes r i + renamed_select_nodes ss i + 1
    renamed_select_nodes (indexed p s n ss) =
        λ i. renamed_nodes s i + renamed_nodes n i + renamed_select_nodes ss i + 1

-- ---- numbers in place of constants

number_nodes : (p : Pos) (o : Option ℕ) (x : Expr) (value : ℕ → ℕ) (n : ℕ) → nodes x ≤ n → 1 ≤ n
    → nodes (number_or p o x value) ≤ n
number_nodes p None x value n h k = h
number_nodes p (Some m) x value n h k = k

constant_nodes : (p : Pos) (text : List ℕ) (ss : Selects) (o : Option Const)
    → nodes (named_constant p text ss o) ≤ select_nodes ss + 1
constant_nodes p text ss None = omega arith
constant_nodes p text whole (Some c) = omega arith
constant_nodes p text (bit q i ss) (Some c) =
    number_nodes p (valid_size (vector_of text c ∷ []) (name p text (bit q i ss))) (name p text (bit q i ss)) _ _
    (omega arith) (omega arith)
constant_nodes p text (part q l r ss) (Some c) =
    number_nodes p (valid_size (vector_of text c ∷ []) (name p text (part q l r ss))) (name p text (part q l r ss)) _ _
    (omega arith) (omega arith)
constant_nodes p text (indexed q s n ss) (Some c) =
    number_nodes p (valid_size (vector_of text c ∷ []) (name p text (indexed q s n ss)))
    (name p text (indexed q s n ss)) _ _ (omega arith) (omega arith)

module _ (c : List ℕ → Option Const) where
  mutual
    settled_nodes : (e : Expr) → nodes (settled c e) ≤ nodes e
    settled_nodes (number p n) = omega arith
    settled_nodes (name p text ss) =
        let inner = settled_select_nodes ss in
        let here = constant_nodes p text (settled_selects c ss) (c text) in omega (arith, inner, here)
    settled_nodes (paren p x) = let inner = settled_nodes x in omega (arith, inner)
    settled_nodes (unary p op x) = let inner = settled_nodes x in omega (arith, inner)
    settled_nodes (binary p op x y) =
        let left = settled_nodes x in let right = settled_nodes y in omega (arith, left, right)
    settled_nodes (conditional p k x y) =
        let test = settled_nodes k in let left = settled_nodes x in let right = settled_nodes y in
        omega (arith, test, left, right)
    settled_nodes (concat p es) = let inner = settled_all_nodes es in omega (arith, inner)
    settled_nodes (repeat p n es) =
        let count = settled_nodes n in let inner = settled_all_nodes es in omega (arith, count, inner)
    settled_nodes (cast p to x) = let inner = settled_nodes x in omega (arith, inner)

    settled_all_nodes : (es : Exprs) → all_nodes (settled_exprs c es) ≤ all_nodes es
    settled_all_nodes none = omega arith
    settled_all_nodes (more e es) =
        let first = settled_nodes e in let rest = settled_all_nodes es in omega (arith, first, rest)

    settled_select_nodes : (ss : Selects) → select_nodes (settled_selects c ss) ≤ select_nodes ss
    settled_select_nodes whole = omega arith
    settled_select_nodes (bit p x ss) =
        let first = settled_nodes x in let rest = settled_select_nodes ss in omega (arith, first, rest)
    settled_select_nodes (part p l r ss) =
        let left = settled_nodes l in let right = settled_nodes r in let rest = settled_select_nodes ss in
        omega (arith, left, right, rest)
    settled_select_nodes (indexed p s n ss) =
        let left = settled_nodes s in let right = settled_nodes n in let rest = settled_select_nodes ss in
        omega (arith, left, right, rest)

-- ---- both

module _ (ss : List Scope) where
  pub flat_nodes : (e : Expr) → nodes (flat_expr ss e) ≤ nodes e
  flat_nodes e =
      subst (λ n. n ≤ nodes e) (sym (renamed_nodes (full ss) (settled (constant_in ss) e)))
      (settled_nodes (constant_in ss) e)

  flat_select_nodes : (xs : Selects) → select_nodes (flat_selects ss xs) ≤ select_nodes xs
  flat_select_nodes xs =
      subst (λ n. n ≤ select_nodes xs) (sym (renamed_select_nodes (full ss) (settled_selects (constant_in ss) xs)))
      (settled_select_nodes (constant_in ss) xs)

  mutual
    pub flat_target_nodes : (l : Lval) → target_nodes (flat_lval ss l) ≤ target_nodes l
    flat_target_nodes (named p text xs) = let inner = flat_select_nodes xs in omega (arith, inner)
    flat_target_nodes (joined p ls) = let inner = flat_targets_nodes ls in omega (arith, inner)

    flat_targets_nodes : (ls : Lvals) → all_target_nodes (flat_lvals ss ls) ≤ all_target_nodes ls
    flat_targets_nodes no_lvals = omega arith
    flat_targets_nodes (more_lvals l ls) =
        let first = flat_target_nodes l in let rest = flat_targets_nodes ls in omega (arith, first, rest)

  flat_label_nodes : (es : List Expr) → label_nodes (flat_exprs ss es) ≤ label_nodes es
  flat_label_nodes [] = omega arith
  flat_label_nodes (e ∷ es) =
      let first = flat_nodes e in let rest = flat_label_nodes es in omega (arith, first, rest)

  mutual
    pub flat_stmt_nodes : (s : Stmt) → stmt_nodes (flat_stmt ss s) ≤ stmt_nodes s
    flat_stmt_nodes (begin attrs p label xs) = let inner = flat_stmts_nodes xs in omega (arith, inner)
    flat_stmt_nodes (if_only attrs p e x) =
        let test = flat_nodes e in let inner = flat_stmt_nodes x in omega (arith, test, inner)
    flat_stmt_nodes (if_else attrs p e x y) =
        let test = flat_nodes e in let first = flat_stmt_nodes x in let second = flat_stmt_nodes y in
        omega (arith, test, first, second)
    flat_stmt_nodes (case attrs p kind e arms) =
        let test = flat_nodes e in let inner = flat_arm_nodes arms in omega (arith, test, inner)
    flat_stmt_nodes (assign attrs p l kind e) =
        let target = flat_target_nodes l in let value = flat_nodes e in omega (arith, target, value)
    flat_stmt_nodes (assume attrs p e) = let inner = flat_nodes e in omega (arith, inner)
    flat_stmt_nodes (empty attrs p) = omega arith

    flat_stmts_nodes : (xs : Stmts) → all_stmt_nodes (flat_stmts ss xs) ≤ all_stmt_nodes xs
    flat_stmts_nodes no_stmts = omega arith
    flat_stmts_nodes (more_stmts x xs) =
        let first = flat_stmt_nodes x in let rest = flat_stmts_nodes xs in omega (arith, first, rest)

    flat_arm_nodes : (arms : Arms) → arm_nodes (flat_arms ss arms) ≤ arm_nodes arms
    flat_arm_nodes no_arms = omega arith
    flat_arm_nodes (labels p es x arms) =
        let first = flat_label_nodes es in let inner = flat_stmt_nodes x in let rest = flat_arm_nodes arms in
        omega (arith, first, inner, rest)
    flat_arm_nodes (default p colon x arms) =
        let inner = flat_stmt_nodes x in let rest = flat_arm_nodes arms in omega (arith, inner, rest)
