-- One clause is learnt, and may join the others.
use Rattle.std.proofs.Common.{◌≡◌, true, false, List, [], ◌∷◌, ◌++◌, ℤ, neg_ℤ, refl}
use Rattle.std.proofs.lemmas.Bool.{false≢true}
use Rattle.lrat_check.specs.Sets.{has, reading}
use Rattle.lrat_check.specs.Steps.{is_empty}
use Rattle.sat_trail.specs.Trail.{Entries, lits, below, Stand}
use Rattle.sat_trail.specs.Clauses.{Within}
use Rattle.sat_propagate.specs.Laws.{IsOlder}
use Rattle.sat_learn.specs.Analysis.{Resolves, SameLevel, is_unit}
use Rattle.sat_learn.specs.Learning.{Learns}
use Rattle.sat_trail.proofs.Readings.{unit_to}
use Rattle.sat_learn.proofs.News.{unit_is, is_resolvent, strengthens}

some_at : (r : List ℤ) (l : ℤ) → has r l ≡ true → is_empty r ≡ false
some_at [] l h = absurd (false≢true h)
some_at (m ∷ r) l h = refl

-- one clause is learnt, where it is traced back until one literal alone is open, and may then join the others
pub learns_on : (cs : List (List ℤ)) (t mid cut : Entries) (r hints : List ℤ) → Resolves cs mid r hints
    → SameLevel t mid → is_unit (reading (lits (below mid)) r) ≡ true → Within (lits mid) (lits t)
    → Within (lits cut) (lits mid) → IsOlder t cut → Stand (cs ++ r ∷ []) cut → Learns cs r hints t cut
learns_on cs t mid cut r hints d v u w x o s =
    let l = unit_is (reading (lits (below mid)) r) u in
    record {
      resolvent = is_resolvent cs mid r hints d;
      strengthens = strengthens cs mid r hints d v.decided u;
      some = some_at r l.0 (unit_to (lits (below mid)) r l.0 l.1).member;
      fine = d.fine;
      stand = s;
      false_there = λ y h. w (neg_ℤ y) (d.all_false y h);
      part = λ y h. w y (x y h);
      older = o;
    }
