-- The parts of a target, from the last one on.
use Rattle.std.specs.Prelude.{◌≡◌, ℕ, zero, suc, ◌≤◌, ◌<◌, List, [], ◌∷◌, length, get_or}
use Rattle.std.proofs.Common.{ap, arith}
use Rattle.vl_tree.specs.Lval.{Lval, lvals, depth, lvals_depth}

-- a part is no deeper than its list
pub part_depth : (ls : List Lval) (i : ℕ) (l : Lval) → i < length ls → l ≡ get_or ls i l
    → depth l ≤ lvals_depth (lvals ls)
part_depth [] i l h k = absurd (omega arith)
part_depth (f ∷ ls) zero l h k = let p : depth l ≤ depth f = omega (arith, ap depth k) in omega (arith, p)
part_depth (f ∷ ls) (suc i) l h k = omega (arith, part_depth ls i l (omega arith) k)

pub ruleset parts = (part_depth)
