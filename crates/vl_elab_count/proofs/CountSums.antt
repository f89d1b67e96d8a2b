-- Sums that stop at a limit.
use Rattle.std.specs.Prelude.{◌≡◌, ℕ, zero, suc, ◌+◌, ◌-◌, ◌^◌, ◌≤◌, ◌<◌, min, List, [], ◌∷◌, length, get_or}
use Rattle.std.proofs.Common.{ap, ◌∙◌, arith}
use Rattle.vl_tree.specs.declared.expr.Select.{Select}
use Rattle.vl_tree.specs.declared.expr.Select.TheVariants as s
use Rattle.vl_tree.specs.Expr.{Selects}
use Rattle.vl_tree.specs.ExprView.{with_select}
use Rattle.vl_tree.specs.Lval.{Lval, lvals, depth, lvals_depth}
use Rattle.vl_size.proofs.Falls.{select_depth}
use Rattle.vl_size.proofs.Rest.{part_depth}
use Rattle.vl_mean.specs.ConstantFaults.{capped}
use Rattle.vl_mean.specs.FlatLaw.{select_nodes}
use Rattle.vl_elab_count.specs.Parts as spec

stopped : (top m n : ℕ) → min (min m top + min n top) top ≡ min (m + n) top
stopped top m n = omega arith

stopped_one : (top m : ℕ) → min (min m top + 1) top ≡ min (m + 1) top
stopped_one top m = omega arith

pub sum : (m n a b : ℕ) → a ≡ capped m → b ≡ capped n → capped (a + b) ≡ capped (m + n)
sum m n a b h k = (λ i. capped (h i + k i)) ∙ stopped (2 ^ 64 - 1) m n

pub one : (m a : ℕ) → a ≡ capped m → capped (a + 1) ≡ capped (m + 1)
one m a h = ap (λ a. capped (a + 1)) h ∙ stopped_one (2 ^ 64 - 1) m

-- one select before the others
pub select_next : (x : Select) (ss : Selects) → select_nodes (with_select x ss) ≡ spec.select_nodes x + select_nodes ss
select_next (s.Bit p i) ss = omega arith
select_next (s.Part p l r) ss = omega arith
select_next (s.Indexed p i n) ss = omega arith

pub target_depth : (ls : List Lval) (i : ℕ) (l : Lval) → i < length ls → l ≡ get_or ls i l
    → depth l ≤ lvals_depth (lvals ls)
target_depth [] i l h k = absurd (omega arith)
target_depth (f ∷ ls) zero l h k = let p : depth l ≤ depth f = omega (arith, ap depth k) in omega (arith, p)
target_depth (f ∷ ls) (suc i) l h k = omega (arith, target_depth ls i l (omega arith) k)

pub ruleset sums = (sum, one, select_next, part_depth, select_depth, target_depth)
