use Rattle.std.proofs.Common.{◌≡◌, take}
use Rattle.sat_search.specs.Ledger.{by_ids}
use Rattle.sat_search.proofs.ids.by_ids.Given as goal

abbrev pub invariant-loop-hint : goal.invariant-loop-hint
invariant-loop-hint l = l.named.items ≡ by_ids l.ids (take l.hint-index l.hints)
