use Rattle.std.proofs.Common.{◌≡◌, ◌<◌, ◌≤◌, ℕ, take, length}
use Rattle.std.specs.Prelude.{slice_get, Some}
use Rattle.sat_cubes.specs.Splits.{IsNext}
use Rattle.sat_cubes.proofs.splitting.split_of.Given as goal

abbrev pub invariant-loop-turn : goal.invariant-loop-turn
invariant-loop-turn l = (length l.split.items ≡ l._turn)
    × ((k var : ℕ) → slice_get l.split.items k ≡ Some var
    → IsNext l.formula.clauses l.formula.vars (take k l.split.items) var)
