use Rattle.std.proofs.Common.{◌≤◌, length}
use Rattle.sat_search.specs.Ledger.{StaysTold}
use Rattle.sat_search.proofs.ledger.Ledger.forget.Given as goal

abbrev pub invariant-sifting : goal.invariant-sifting
invariant-sifting l = StaysTold l.fn.self l.self × (l.place ≤ length l.self.clauses)

abbrev pub decreases-sifting : goal.decreases-sifting
decreases-sifting l = l.place
