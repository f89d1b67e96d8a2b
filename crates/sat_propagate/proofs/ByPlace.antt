-- Clauses by their places.
use Rattle.std.proofs.Common.{◌≡◌, ℕ, zero, suc, ◌<◌, Bool, true, false, ◌&&◌, List, [], ◌∷◌}
use Rattle.std.proofs.Common.{◌++◌, ℤ, length}
use Rattle.std.proofs.Common.{Option, Some, None, refl, ap, sym, subst, ◌∙◌, inl, inr, arith}
use Rattle.std.specs.Prelude.{slice_get}
use Rattle.std.specs.List.{list_any}
use Rattle.std.proofs.lemmas.Bool.{false≢true, and_parts}
use Rattle.lrat_check.specs.Sets.{has, reading, AreLits}
use Rattle.lrat_check.specs.Resolved.{is_open}
use Rattle.sat_trail.specs.Trail.{Entries, lits, decides, settled, Because, Stand}
use Rattle.sat_trail.proofs.Members.{or_left, or_right, or_cases, has_tail}
use Rattle.sat_propagate.specs.Watches.{OpenBelow}
use Rattle.sat_propagate.specs.Laws.{IsOlder}
use Rattle.sat_propagate.specs.Propagation.{AllLits}

pub none_some : (c : List ℤ) → None ≡ Some c → ⊥
none_some c e = cc

pub some_is : (c d : List ℤ) → Some c ≡ Some d → c ≡ d
some_is c d e = cc

-- a place has one clause
pub same_clause : (cs : List (List ℤ)) (place : ℕ) (c d : List ℤ) → slice_get cs place ≡ Some c
    → slice_get cs place ≡ Some d → c ≡ d
same_clause cs place c d e f = some_is c d (sym e ∙ f)

pub lits_at : (clauses : List (List ℤ)) (place : ℕ) (c : List ℤ) → AllLits clauses → slice_get clauses place ≡ Some c
    → AreLits c
lits_at [] place c k g = absurd (none_some c g)
lits_at (d ∷ ds) zero c k g = subst AreLits (some_is d c g) k.0
lits_at (d ∷ ds) (suc place) c k g = lits_at ds place c k.1 g

pub get_more : (cs : List (List ℤ)) (r : List ℤ) (place : ℕ) (c : List ℤ) → slice_get cs place ≡ Some c
    → slice_get (cs ++ r ∷ []) place ≡ Some c
get_more [] r place c e = absurd (none_some c e)
get_more (d ∷ ds) r zero c e = e
get_more (d ∷ ds) r (suc place) c e = get_more ds r place c e

pub get_less : (cs : List (List ℤ)) (r : List ℤ) (place : ℕ) (c : List ℤ) → place < length cs
    → slice_get (cs ++ r ∷ []) place ≡ Some c → slice_get cs place ≡ Some c
get_less [] r place c l e = absurd (omega (arith, l))
get_less (d ∷ ds) r zero c l e = e
get_less (d ∷ ds) r (suc place) c l e = get_less ds r place c (omega (arith, l)) e

pub get_below : (cs : List (List ℤ)) (place : ℕ) (c : List ℤ) → slice_get cs place ≡ Some c → place < length cs
get_below [] place c e = absurd (none_some c e)
get_below (d ∷ ds) zero c e = omega arith
get_below (d ∷ ds) (suc place) c e = let below = get_below ds place c e in omega (arith, below)

both : (a b : Bool) → a ≡ true → b ≡ true → (a && b) ≡ true
both true b p q = q
both false b p q = absurd (false≢true p)

pub each_settled : (set : List ℤ) (clauses : List (List ℤ))
    → ((place : ℕ) (clause : List ℤ) → slice_get clauses place ≡ Some clause → is_open (reading set clause) ≡ true)
    → settled clauses set ≡ true
each_settled set [] f = refl
each_settled set (c ∷ cs) f = both (is_open (reading set c)) (settled cs set) (f 0 c refl)
    (each_settled set cs (λ place clause p. f (suc place) clause p))

pub settled_at : (clauses : List (List ℤ)) (set : List ℤ) (place : ℕ) (c : List ℤ) → settled clauses set ≡ true
    → slice_get clauses place ≡ Some c → is_open (reading set c) ≡ true
settled_at [] set place c s e = absurd (none_some c e)
settled_at (d ∷ ds) set zero c s e =
    ap (λ z. is_open (reading set z)) (sym (some_is d c e)) ∙ (and_parts (is_open (reading set d)) (settled ds set) s).0
settled_at (d ∷ ds) set (suc place) c s e =
    settled_at ds set place c (and_parts (is_open (reading set d)) (settled ds set) s).1 e

settled_by : (cs : List (List ℤ)) (set : List ℤ) (lit : ℤ) (reason : Option ℕ) → Because cs set lit reason
    → decides reason ≡ true → settled cs set ≡ true
settled_by cs set lit None b d = b
settled_by cs set lit (Some place) b d = absurd (false≢true d)

-- at each decision a clause of the trail was settled
pub open_below : (cs : List (List ℤ)) (t : Entries) (place : ℕ) (c : List ℤ) → Stand cs t
    → slice_get cs place ≡ Some c → OpenBelow c t
open_below cs [] place c s g = tt
open_below cs (e ∷ t) place c s g = (
  λ d. settled_at cs (lits t) place c (settled_by cs (lits t) e.lit e.reason s.0.because d) g,
  open_below cs t place c s.1 g,
)

-- and all were where the trail is cut to what is older than a decision
pub settled_older : (cs : List (List ℤ)) (t u : Entries) → Stand cs t → IsOlder t u → settled cs (lits u) ≡ true
settled_older cs [] u s o = absurd o
settled_older cs (e ∷ t) u s o = elim o [
  | inl q ↦ ap (λ z. settled cs (lits z)) q.1 ∙ settled_by cs (lits t) e.lit e.reason s.0.because q.0
  | inr q ↦ settled_older cs t u s.1 q
]

-- what is true stays true as an entry comes
pub any_more : (set c : List ℤ) (l : ℤ) → list_any (has set) c ≡ true → list_any (has (l ∷ set)) c ≡ true
any_more set [] l h = absurd (false≢true h)
any_more set (x ∷ c) l h = elim (or_cases (has set x) (list_any (has set) c) h) [
  | inl e ↦ or_left (has (l ∷ set) x) (list_any (has (l ∷ set)) c) (has_tail x l set e)
  | inr e ↦ or_right (has (l ∷ set) x) (list_any (has (l ∷ set)) c) (any_more set c l e)
]
