use Rattle.std.proofs.Common.{◌≡◌, ◌≤◌, ◌^◌, length}
use Rattle.cnf_form.specs.Cnf.{Cnf}
use Rattle.sat_cubes.specs.Joined.{AreSmall, CanSplit, Reaches, StaysAdded}
use Rattle.sat_cubes.proofs.joining.join_all.Given as goal

abbrev pub invariant-loop-left : goal.invariant-loop-left
invariant-loop-left l = (1 ≤ l.left) × (l.left ≤ length l.split) × (length l.ids.items ≡ 2 ^ l.left)
    × AreSmall l.ids.items × StaysAdded l.fn.book l.book
    × ((formula : Cnf) → CanSplit formula l.split
    → Reaches formula l.split (length l.split) (2 ^ length l.split) l.fn.book l.fn.ids.items
    → Reaches formula l.split l.left (2 ^ l.left) l.book l.ids.items)

abbrev pub decreases-loop-left : goal.decreases-loop-left
decreases-loop-left l = l.left
