use Rattle.std.proofs.Common.{◌≡◌, ◌+◌, ◌-◌, vec_len}
use Rattle.sat_propagate.specs.Watching.{lists_of, items_of}
use Rattle.sat_propagate.proofs.lists.widen.Given as goal

abbrev pub invariant-grow : goal.invariant-grow
invariant-grow l = lists_of (items_of l.lists.items) ≡ lists_of (items_of l.fn.lists.items)

abbrev pub decreases-grow : goal.decreases-grow
decreases-grow l = l.place + 1 - vec_len l.lists
