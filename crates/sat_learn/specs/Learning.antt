-- Between functions: One clause is learnt. Rule of this project.
use Rattle.std.specs.Prelude.{◌≡◌, false, List, [], ◌∷◌, ◌++◌, ℤ}
use Rattle.std.specs.List.{list_any}
use Rattle.lrat_check.specs.Steps.{numbered, is_negative, is_empty}
use Rattle.lrat_check.specs.Resolved.{IsResolvent, Strengthens}
use Rattle.sat_trail.specs.Trail.{Entries, lits, Stand}
use Rattle.sat_trail.specs.Clauses.{AllFalse, Within}
use Rattle.sat_propagate.specs.Laws.{IsOlder}

-- the clause comes of its hints, is false on the trail, and may join the others where the trail is cut to
pub record Learns (clauses : List (List ℤ)) (clause hints : List ℤ) (trail cut : Entries) : Type 0 where
  pub resolvent : IsResolvent (numbered clauses) clause hints
  pub strengthens : Strengthens (numbered clauses) clause
  pub some : is_empty clause ≡ false
  pub fine : list_any is_negative hints ≡ false
  pub stand : Stand (clauses ++ clause ∷ []) cut
  pub false_there : AllFalse (lits trail) clause
  pub part : Within (lits cut) (lits trail)
  pub older : IsOlder trail cut
