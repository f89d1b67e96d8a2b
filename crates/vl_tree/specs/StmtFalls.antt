-- Between functions: The parts of a statement are less deep than the statement. Rule of this project.
use Rattle.std.specs.Prelude.{◌+◌, ◌*◌, ◌≤◌, List, [], ◌∷◌, Some, None}
use Rattle.std.proofs.Common.{arith}
use denote.Param.Weighed.{most}
use Rattle.fv_text.specs.declared.pos.Pos.{Pos}
use Rattle.vl_tree.specs.declared.stmt.StmtKind.{StmtKind}
use Rattle.vl_tree.specs.declared.stmt.StmtKind.TheVariants as k
use Rattle.vl_tree.specs.declared.stmt.Arm.{Arm}
use Rattle.vl_tree.specs.declared.stmt.Arm.TheVariants as a
use Rattle.vl_tree.specs.declared.stmt.Stmt.TheDeep.{deep-StmtKind, deep-Arm, size-Stmt, size-Arm}
use Rattle.vl_tree.specs.Attributes.{Attributes}
use Rattle.vl_tree.specs.Stmt.{Stmt, stmts, depth, stmts_depth, arms_depth}
use Rattle.vl_tree.specs.StmtView.{arms, shown}

most_le-stmts_depth : (ss : List Stmt) → most (λ s. depth s + 1) ss ≤ stmts_depth (stmts ss) + 1
most_le-stmts_depth [] = omega arith
most_le-stmts_depth (s ∷ ss) = omega (arith, most_le-stmts_depth ss)

most_le-arms_depth : (xs : List Arm) → most deep-Arm xs ≤ arms_depth (arms xs) + 1
most_le-arms_depth [] = omega arith
most_le-arms_depth (a.Labels p es s ∷ xs) = omega (arith, most_le-arms_depth xs)
most_le-arms_depth (a.Default p colon s ∷ xs) = omega (arith, most_le-arms_depth xs)

pub falls : (attrs : Attributes) (p : Pos) (s : StmtKind) → deep-StmtKind s ≤ depth (shown attrs p s)
falls attrs p (k.Begin label ss) = omega (arith, most_le-stmts_depth ss)
falls attrs p (k.If c first None) = omega arith
falls attrs p (k.If c first (Some second)) = omega arith
falls attrs p (k.Case kind e xs) = omega (arith, most_le-arms_depth xs)
falls attrs p (k.Assign l kind e) = omega arith
falls attrs p (k.Assume e) = omega arith
falls attrs p k.Empty = omega arith

-- what a recursion over the parts of a statement counts down
pub most_le-size : (ss : List Stmt) → most (λ s. size-Stmt s) ss ≤ 3 * (stmts_depth (stmts ss) + 1)
most_le-size [] = omega arith
most_le-size (s ∷ ss) = omega (arith, most_le-size ss)

pub most_le-arm_size : (xs : List Arm) → most (λ x. size-Arm x) xs ≤ 3 * (arms_depth (arms xs) + 1) + 2
most_le-arm_size [] = omega arith
most_le-arm_size (a.Labels p es s ∷ xs) = omega (arith, most_le-arm_size xs)
most_le-arm_size (a.Default p colon s ∷ xs) = omega (arith, most_le-arm_size xs)

pub ruleset parts_fall = (most_le-size, most_le-arm_size)
