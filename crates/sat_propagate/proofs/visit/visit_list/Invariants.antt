use Rattle.std.proofs.Common.{◌≡◌, vec_len}
use Rattle.lrat_check.specs.Store.{coded, next}
use Rattle.sat_trail.specs.Trail.{true_codes}
use Rattle.sat_propagate.specs.Watching.{lists_of, Ready, AreFit, SameHeld, Going}
use Rattle.sat_propagate.proofs.visit.visit_list.Given as goal

-- the list was gone through up to what is left
abbrev pub invariant-loop-watch : goal.invariant-loop-watch
invariant-loop-watch l = Ready (coded l.store) (next l.fn.store) (lists_of l.lists)
    × AreFit (coded l.store) (next l.fn.store) l.rest.items
    × SameHeld (coded l.fn.store) (coded l.store) × (next l.store ≡ next l.fn.store)
    × Going (coded l.fn.store) (coded l.store) (lists_of l.fn.lists) (lists_of l.lists) (true_codes l.trail) l.code
    l.fn.rest.items l.rest.items

abbrev pub decreases-loop-watch : goal.decreases-loop-watch
decreases-loop-watch l = vec_len l.rest
