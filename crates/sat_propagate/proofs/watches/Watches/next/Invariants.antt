use Rattle.std.proofs.Common.{◌≡◌, ◌≤◌, [], length}
use Rattle.lrat_check.specs.Store.{coded, next}
use Rattle.sat_propagate.specs.Watching.{SameHeld}
use Rattle.sat_propagate.specs.Watches.{Keeps}
use Rattle.sat_propagate.proofs.watches.Watches.next.Given as goal

-- so many entries of the trail were gone through, and no list is left
abbrev pub invariant-loop-place : goal.invariant-loop-place
invariant-loop-place l = Keeps l.self l.trail × (l.self.rest ≡ []) × (l.self.head ≡ l.place)
    × (l.place ≤ length l.trail) × SameHeld (coded l.fn.self.store) (coded l.self.store)
    × (next l.self.store ≡ next l.fn.self.store)
