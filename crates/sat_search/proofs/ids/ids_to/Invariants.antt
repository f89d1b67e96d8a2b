use Rattle.std.proofs.Common.{◌≡◌}
use Rattle.sat_search.specs.Ledger.{ids_to}
use Rattle.sat_search.proofs.ids.ids_to.Given as goal

abbrev pub invariant-loop-index : goal.invariant-loop-index
invariant-loop-index l = l.ids.items ≡ ids_to l.index
