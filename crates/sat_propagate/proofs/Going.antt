-- What is kept as an entry comes, as the trail is cut, and as a clause joins.
use Rattle.std.proofs.Common.{◌≡◌, ◌≤◌, true, List, [], ◌∷◌, ◌++◌, ℤ, length}
use Rattle.std.proofs.Common.{length-append, arith}
use Rattle.lrat_check.specs.Store.{coded}
use Rattle.sat_trail.specs.declared.trail.Entry.{Entry}
use Rattle.sat_trail.specs.Trail.{Entries, lits, is_decision, true_codes, Stand}
use Rattle.sat_propagate.specs.Laws.{IsOlder}
use Rattle.sat_propagate.specs.Watching.{Calm}
use Rattle.sat_propagate.proofs.Changes.{pushed_on, cut_on}
use Rattle.sat_propagate.specs.Propagation.{Taken, Holds}
use Rattle.sat_propagate.proofs.Consistent.{alone_true}
use Rattle.sat_propagate.proofs.ByPlace.{get_more, get_less, settled_at, settled_older, any_more}

-- an entry comes behind all that were gone through
pub goes_on : (cs : List (List ℤ)) (t : Entries) (p : Taken) (e : Entry) → Holds cs t p → p.watches.head ≤ length t
    → (is_decision e ≡ true → Calm (coded p.watches.store) (true_codes t)) → Holds cs (e ∷ t) p
goes_on cs t p e h l calm = record {
  keeps = pushed_on p.watches t e h.keeps l calm;
  above = h.above;
  few = h.few;
  known = h.known;
  taken = h.taken;
  short = h.short;
  looked = h.looked;
  true_there = λ index b. let s = h.true_there index b in (s.0, s.1, any_more (lits t) s.0 e.lit s.2);
}

-- the trail is cut to what is older than a decision, where each short clause was true
pub cut_to : (cs : List (List ℤ)) (t u : Entries) (p : Taken) → Stand cs t → Holds cs t p → IsOlder t u → Holds cs u p
cut_to cs t u p s h o = record {
  keeps = cut_on p.watches t u h.keeps o;
  above = h.above;
  few = h.few;
  known = h.known;
  taken = h.taken;
  short = h.short;
  looked = h.looked;
  true_there = λ index b.
      let l = h.looked in
      let c = h.short index (omega (arith, b, l)) in
      (c.0, c.2, alone_true (lits u) c.0 c.3 (settled_at cs (lits u) _ c.0 (settled_older cs t u s o) c.2));
}

-- a clause joins the others
pub joined_by : (cs : List (List ℤ)) (r : List ℤ) (t : Entries) (p : Taken) → Holds cs t p
    → Holds (cs ++ r ∷ []) t p
joined_by cs r t p h = record {
  keeps = h.keeps;
  above = h.above;
  few = (let l = length-append cs (r ∷ []) in let f = h.few in omega (arith, l, f));
  known = λ id d e. let o = h.known id d e in (o.0, o.1, o.2, o.3, get_more cs r o.0 o.1 o.4, o.5);
  taken = λ place c l e. let f = h.few in h.taken place c l (get_less cs r place c (omega (arith, l, f)) e);
  short = λ index l. let s = h.short index l in (s.0, s.1, get_more cs r _ s.0 s.2, s.3);
  looked = h.looked;
  true_there = λ index l. let s = h.true_there index l in (s.0, get_more cs r _ s.0 s.1, s.2);
}
