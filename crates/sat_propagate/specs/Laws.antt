-- Between functions: What the watches keep as the trail changes between two looks. Rules of this project.
use Rattle.std.specs.Prelude.{◌≡◌, ◌≤◌, ◌⊎◌, true, [], ◌∷◌, length}
use Rattle.lrat_check.specs.Store.{coded}
use Rattle.sat_trail.specs.declared.trail.Entry.{Entry}
use Rattle.sat_trail.specs.Trail.{Entries, is_decision, true_codes}
use Rattle.sat_propagate.specs.Watching.{Calm}
use Rattle.sat_propagate.specs.Watches.{State, Keeps}

-- an entry may come behind all that were gone through; a decision where all is calm
abbrev pub KeptAsEntriesCome : Type 0
KeptAsEntriesCome = (w : State) (trail : Entries) (e : Entry) → Keeps w trail → w.head ≤ length trail
    → (is_decision e ≡ true → Calm (coded w.store) (true_codes trail)) → Keeps w (e ∷ trail)

-- the entries are those older than a decision of the trail
abbrev pub IsOlder : Entries → Entries → Type 0
IsOlder [] older = ⊥
IsOlder (e ∷ rest) older = ((is_decision e ≡ true) × (older ≡ rest)) ⊎ IsOlder rest older

-- the trail may be cut to what is older than a decision
abbrev pub KeptAsTheTrailIsCut : Type 0
KeptAsTheTrailIsCut = (w : State) (trail older : Entries) → Keeps w trail → IsOlder trail older → Keeps w older
