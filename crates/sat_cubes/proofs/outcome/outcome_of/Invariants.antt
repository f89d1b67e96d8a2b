use Rattle.std.proofs.Common.{◌≡◌, ℕ, map, Some}
use Rattle.std.specs.Prelude.{slice_get, MatchBool}
use Rattle.sat_cubes.specs.declared.part.Part.TheVariants.{Refuted, Spent}
use Rattle.sat_cubes.proofs.outcome.outcome_of.Given as goal

-- the parts so far are these steps, or one of them has used up its share
abbrev pub invariant-loop-part : goal.invariant-loop-part
invariant-loop-part l = MatchBool l.is_spent ((k : ℕ) × (slice_get l.yielded k ≡ Some Spent))
    (map Refuted l.refutations.items ≡ l.yielded)
