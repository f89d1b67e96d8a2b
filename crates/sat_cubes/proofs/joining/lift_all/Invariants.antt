use Rattle.std.proofs.Common.{◌≡◌, ◌<◌, ◌^◌, ℕ, length}
use Rattle.cnf_form.specs.Cnf.{Cnf, AreClauses}
use Rattle.lrat_check.specs.Steps.{numbered}
use Rattle.sat_cubes.specs.Joined.{AreSmall, CanSplit, Stands, Reaches, Tells}
use Rattle.sat_cubes.specs.Parts.{AreRefutations}
use Rattle.sat_cubes.proofs.joining.lift_all.Given as goal

abbrev pub invariant-loop-index : goal.invariant-loop-index
invariant-loop-index l = (length l.ids.items ≡ l.index)
    × (l.fn.book.top < 10 ^ 18 → (l.book.top < 10 ^ 18) × AreSmall l.ids.items)
    × ((formula : Cnf) → CanSplit formula l.split → 0 < length l.split → AreClauses formula.vars formula.clauses
    → AreRefutations formula l.split l.refutations → Stands formula l.fn.book (numbered formula.clauses)
    → Reaches formula l.split (length l.split) (l.index) l.book l.ids.items
    × Tells l.split (l.index) l.book.steps)
