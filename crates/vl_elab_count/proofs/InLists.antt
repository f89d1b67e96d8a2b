-- Statements and arms in lists: they are no deeper, and their nodes are added up.
use Rattle.std.specs.Prelude.{◌≡◌, refl, ℕ, zero, suc, ◌+◌, ◌≤◌, ◌<◌, List, [], ◌∷◌, length, get_or}
use Rattle.std.proofs.Common.{ap, arith}
use Rattle.vl_tree.specs.declared.stmt.Arm.{Arm}
use Rattle.vl_tree.specs.declared.stmt.Arm.TheVariants as a
use Rattle.vl_tree.specs.Stmt.{Stmt, Arms, no_arms, stmts, depth, stmts_depth, arms_depth}
use Rattle.vl_tree.specs.StmtView.{arms, with_arm}
use Rattle.vl_mean.specs.FlatLaw.{arm_nodes}
use Rattle.vl_elab_count.specs.Parts as spec

pub stmt_depth : (ss : List Stmt) (i : ℕ) (s : Stmt) → i < length ss → s ≡ get_or ss i s
    → depth s ≤ stmts_depth (stmts ss)
stmt_depth [] i s h k = absurd (omega arith)
stmt_depth (f ∷ ss) zero s h k = let p : depth s ≤ depth f = omega (arith, ap depth k) in omega (arith, p)
stmt_depth (f ∷ ss) (suc i) s h k = omega (arith, stmt_depth ss i s (omega arith) k)

first_depth : (x : Arm) (xs : Arms) → arms_depth (with_arm x no_arms) ≤ arms_depth (with_arm x xs)
first_depth (a.Labels p es s) xs = omega arith
first_depth (a.Default p colon s) xs = omega arith

rest_depth : (x : Arm) (xs : Arms) → arms_depth xs ≤ arms_depth (with_arm x xs)
rest_depth (a.Labels p es s) xs = omega arith
rest_depth (a.Default p colon s) xs = omega arith

pub arm_depth : (xs : List Arm) (i : ℕ) (x : Arm) → i < length xs → x ≡ get_or xs i x
    → arms_depth (with_arm x no_arms) ≤ arms_depth (arms xs)
arm_depth [] i x h k = absurd (omega arith)
arm_depth (y ∷ xs) zero x h k =
    omega (arith, ap (λ z. arms_depth (with_arm z no_arms)) k, first_depth y (arms xs))
arm_depth (y ∷ xs) (suc i) x h k = omega (arith, arm_depth xs i x (omega arith) k, rest_depth y (arms xs))

-- one arm before the others
pub arm_next : (x : Arm) (xs : Arms) → arm_nodes (with_arm x xs) ≡ spec.arm_nodes x + arm_nodes xs
arm_next (a.Labels p es s) xs = refl
arm_next (a.Default p colon s) xs = refl

pub ruleset list_steps = (stmt_depth, arm_depth, arm_next)
