-- Between functions: The parts of a target are less deep than the target. Rule of this project.
use Rattle.std.specs.Prelude.{◌+◌, ◌*◌, ◌≤◌, List, [], ◌∷◌}
use Rattle.std.proofs.Common.{arith}
use denote.Param.Weighed.{most}
use Rattle.fv_text.specs.declared.pos.Pos.{Pos}
use Rattle.vl_tree.specs.declared.lval.LvalKind.{LvalKind}
use Rattle.vl_tree.specs.declared.lval.LvalKind.TheVariants as k
use Rattle.vl_tree.specs.declared.lval.Lval.TheDeep.{deep-LvalKind, size-Lval}
use Rattle.vl_tree.specs.Lval.{Lval, lvals, depth, lvals_depth}
use Rattle.vl_tree.specs.LvalView.{shown}

most_le-lvals_depth : (ls : List Lval) → most (λ l. depth l + 1) ls ≤ lvals_depth (lvals ls) + 1
most_le-lvals_depth [] = omega arith
most_le-lvals_depth (l ∷ ls) = omega (arith, most_le-lvals_depth ls)

pub falls : (p : Pos) (l : LvalKind) → deep-LvalKind l ≤ depth (shown p l)
falls p (k.Name text ss) = omega arith
falls p (k.Concat ls) = omega (arith, most_le-lvals_depth ls)

-- what a recursion over the parts of a target counts down
pub most_le-size : (ls : List Lval) → most (λ l. size-Lval l) ls ≤ 2 * (lvals_depth (lvals ls) + 1)
most_le-size [] = omega arith
most_le-size (l ∷ ls) = omega (arith, most_le-size ls)

pub ruleset parts_fall = (most_le-size)
