use Rattle.std.proofs.Common.{◌≡◌, ◌+◌, ◌^◌, length}
use Rattle.cnf_form.specs.Cnf.{Cnf}
use Rattle.sat_cubes.specs.Joined.{AreSmall, CanSplit, Reaches, Joins, StaysAdded}
use Rattle.sat_cubes.proofs.joining.join.Given as goal

abbrev pub invariant-loop-index : goal.invariant-loop-index
invariant-loop-index l = (length l.joined.items ≡ l.index) × AreSmall l.joined.items × StaysAdded l.fn.book l.book
    × ((formula : Cnf) → CanSplit formula l.split
    → Reaches formula l.split (l.left + 1) (2 ^ (l.left + 1)) l.fn.book l.ids
    → Joins formula l.split l.left l.book l.ids l.index l.joined.items)
