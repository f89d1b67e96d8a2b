-- What a turn comes to, by the answer that is matched.
use Rattle.std.proofs.Common.{◌≡◌, ℕ, List, ℤ, subst}
use Rattle.sat_search.specs.declared.turn.Turn.{Turn}
use Rattle.sat_search.specs.Turns.{State, Keeps, ComesTo, Turns}

pub comes : (budget : ℕ) (formula : List (List ℤ)) (s now : State) (came known : Turn) → Turns s now came
    → came ≡ known → Keeps budget formula s → ComesTo budget formula s now known
comes budget formula s now came known t e k = subst (ComesTo budget formula s now) e (t.1 budget formula k)
