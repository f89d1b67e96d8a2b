-- The answered refusal of a statement is that of its parts.
use Rattle.std.specs.Prelude.{◌≡◌, refl, ℕ, zero, suc, ◌≤◌, ◌<◌, List, [], ◌∷◌, ◌++◌}
use Rattle.std.specs.Prelude.{length, get_or, true}
use Rattle.std.specs.Prelude.{false, Some}
use Rattle.std.proofs.Common.{ap, arith}
use Rattle.vl_tree.specs.declared.stmt.Arm.{Arm}
use Rattle.vl_tree.specs.declared.stmt.Arm.TheVariants as a
use Rattle.vl_tree.specs.Expr.{Expr}
use Rattle.vl_tree.specs.Stmt.{
  Stmt,
  Stmts,
  Arms,
  begin,
  if_only,
  if_else,
  case,
  assign,
  assume,
  empty,
  no_stmts,
  more_stmts,
  no_arms,
  labels,
  default,
  stmts,
  depth,
  stmts_depth,
  arms_depth,
}
use Rattle.vl_tree.specs.StmtView.{arms, with_arm}
use Rattle.vl_size.specs.declared.context.Context.{Context}
use Rattle.vl_elab_spec.specs.Expressions.{expr_refusals, own_refusals}
use Rattle.vl_elab_spec.specs.Meanings.{Names}
use Rattle.vl_elab_spec.specs.Refused.{lower_of, lowest}
use Rattle.vl_elab_spec.specs.Statements.{with_label, case_context, labels_refusals, stmt_refusals, stmts_refusals}
use Rattle.vl_elab_spec.specs.Statements.{arms_refusals, initial_refusals, all_initial_refusals}
use Rattle.vl_elab_check_stmt.specs.Parts.{labels_fault, stmt_fault, stmts_fault, arms_fault, arm_fault, initial_fault}
use Rattle.vl_elab_check_stmt.specs.Parts.{all_initial_fault}
use Rattle.vl_elab_check_expr.proofs.Lowest.{lowest_two}

-- a part is no deeper than its list
pub part_depth : (ss : List Stmt) (i : ℕ) (s : Stmt) → i < length ss → s ≡ get_or ss i s
    → depth s ≤ stmts_depth (stmts ss)
part_depth [] i s h k = absurd (omega arith)
part_depth (f ∷ ss) zero s h k = let p : depth s ≤ depth f = omega (arith, ap depth k) in omega (arith, p)
part_depth (f ∷ ss) (suc i) s h k = omega (arith, part_depth ss i s (omega arith) k)

first_depth : (x : Arm) (xs : Arms) → arms_depth (with_arm x no_arms) ≤ arms_depth (with_arm x xs)
first_depth (a.Labels p es s) xs = omega arith
first_depth (a.Default p colon s) xs = omega arith

rest_depth : (x : Arm) (xs : Arms) → arms_depth xs ≤ arms_depth (with_arm x xs)
rest_depth (a.Labels p es s) xs = omega arith
rest_depth (a.Default p colon s) xs = omega arith

pub arm_depth : (xs : List Arm) (i : ℕ) (x : Arm) → i < length xs → x ≡ get_or xs i x
    → arms_depth (with_arm x no_arms) ≤ arms_depth (arms xs)
arm_depth [] i x h k = absurd (omega arith)
arm_depth (y ∷ xs) zero x h k =
    omega (arith, ap (λ z. arms_depth (with_arm z no_arms)) k, first_depth y (arms xs))
arm_depth (y ∷ xs) (suc i) x h k = omega (arith, arm_depth xs i x (omega arith) k, rest_depth y (arms xs))

-- one arm before the others
pub arm_next : (ns : List Names) (c : Context) (x : Arm) (xs : Arms)
    → arms_fault ns c (with_arm x xs) ≡ lower_of (arm_fault ns c x) (arms_fault ns c xs)
arm_next ns c (a.Labels p es s) xs = refl
arm_next ns c (a.Default p colon s) xs = refl

pub ruleset list_steps = (part_depth, arm_depth, arm_next)

module _ (ns : List Names) where
  same_labels : (c : Context) (es : List Expr) → labels_fault ns c es ≡ lowest (labels_refusals ns c es)
  same_labels c [] = refl
  same_labels c (e ∷ es) =
      lowest_two (expr_refusals ns false c e) (labels_refusals ns c es) _ _ refl (same_labels c es)

  mutual
    pub same_stmt : (s : Stmt) → stmt_fault ns s ≡ lowest (stmt_refusals ns s)
    same_stmt (begin attrs p label xs) = same_stmts xs
    same_stmt (if_only attrs p e x) =
        lowest_two (own_refusals ns false e) (stmt_refusals ns x) _ _ refl (same_stmt x)
    same_stmt (if_else attrs p e x y) =
        lowest_two (own_refusals ns false e ++ stmt_refusals ns x) (stmt_refusals ns y) _ _
        (lowest_two (own_refusals ns false e) (stmt_refusals ns x) _ _ refl (same_stmt x)) (same_stmt y)
    same_stmt (case attrs p kind e arms) =
        let c = case_context ns (with_label ns (record { size = Some 0; signed = true }) e) arms in
        lowest_two (expr_refusals ns false c e) (arms_refusals ns c arms) _ _ refl (same_arms c arms)
    same_stmt (assign attrs p l kind e) = refl
    same_stmt (assume attrs p e) = refl
    same_stmt (empty attrs p) = refl

    same_stmts : (xs : Stmts) → stmts_fault ns xs ≡ lowest (stmts_refusals ns xs)
    same_stmts no_stmts = refl
    same_stmts (more_stmts x xs) =
        lowest_two (stmt_refusals ns x) (stmts_refusals ns xs) _ _ (same_stmt x) (same_stmts xs)

    same_arms : (c : Context) (xs : Arms) → arms_fault ns c xs ≡ lowest (arms_refusals ns c xs)
    same_arms c no_arms = refl
    same_arms c (labels p es s xs) =
        lowest_two (labels_refusals ns c es ++ stmt_refusals ns s) (arms_refusals ns c xs) _ _
        (lowest_two (labels_refusals ns c es) (stmt_refusals ns s) _ _ (same_labels c es) (same_stmt s))
        (same_arms c xs)
    same_arms c (default p colon s xs) =
        lowest_two (stmt_refusals ns s) (arms_refusals ns c xs) _ _ (same_stmt s) (same_arms c xs)

  mutual
    pub same_initial : (s : Stmt) → initial_fault ns s ≡ lowest (initial_refusals ns s)
    same_initial (begin attrs p label xs) = same_initials xs
    same_initial (if_only attrs p e x) = refl
    same_initial (if_else attrs p e x y) = refl
    same_initial (case attrs p kind e arms) = refl
    same_initial (assign attrs p l kind e) = refl
    same_initial (assume attrs p e) = refl
    same_initial (empty attrs p) = refl

    same_initials : (xs : Stmts) → all_initial_fault ns xs ≡ lowest (all_initial_refusals ns xs)
    same_initials no_stmts = refl
    same_initials (more_stmts x xs) =
        lowest_two (initial_refusals ns x) (all_initial_refusals ns xs) _ _ (same_initial x) (same_initials xs)
