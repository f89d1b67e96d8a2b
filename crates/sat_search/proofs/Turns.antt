-- What each turn of a search owes to the calls that it makes, and what it comes to.
use Rattle.std.proofs.Common.{◌≡◌, ℕ, ◌+◌, ◌-◌, ◌^◌, ◌<◌, ◌⊎◌, Bool, true, false, cond, List, [], ◌∷◌, ℤ, length}
use Rattle.std.proofs.Common.{Some, None, refl, ap, sym, subst, ◌∙◌, inl, inr, arith, w64, to_z, of_z}
use Rattle.std.specs.Prelude.{Result, Ok, Err, IfOk}
use Rattle.std.proofs.lemmas.Bool.{false≢true}
use Rattle.lrat_check.specs.Sets.{has, IsLit, AreLits}
use Rattle.sat_trail.specs.Clauses.{AllFalse}
use Rattle.sat_trail.specs.Trail.{Entries, lits, AllAssigned, IsOpenLit, Stand}
use Rattle.sat_propagate.specs.declared.unit_scan.Scan.{Scan}
use Rattle.sat_propagate.specs.declared.unit_scan.Scan.TheVariants as scan
use Rattle.sat_propagate.specs.Propagation.{AllLits, Sees, Taken, Holds, HoldsOn}
use Rattle.sat_learn.specs.Analysis.{Derives, IsConflict}
use Rattle.sat_learn.specs.Learning.{Learns}
use Rattle.sat_trail.specs.Known.{many}
use Rattle.sat_search.specs.Ledger.{State as Ledger, Tells, IsLedger, Adds, StaysTold}
use Rattle.sat_search.specs.declared.turn.Turn.{Turn}
use Rattle.sat_search.specs.declared.turn.Turn.TheVariants as turn
use Rattle.sat_search.specs.Searching.{Searching, rank, rounds}
use Rattle.sat_search.specs.Turns.{State, Keeps, IsSearch, Looked, with_ledger, Learned, GoesOn, turns_left, ComesTo}
use Rattle.sat_search.specs.Turns.{Turns}
use Rattle.sat_search.proofs.Added.{are_steps}
use Rattle.sat_search.proofs.Literals.{all_lits, lits_of}
use Rattle.sat_search.proofs.Models.{models}
use Rattle.sat_search.proofs.Rounds.{rank_falls, new_falls, old_falls}
use Rattle.sat_search.proofs.Searches.{begins, false_literals, new_on, old_on, anew, valid_now, added_now, derived_now}
use Rattle.sat_search.proofs.Searches.{bound_now, refutes_now, fewer_now, refuted_added, refuted_last, refuted_short}
use Rattle.sat_search.proofs.Searches.{resolved_now, short_now}
use Rattle.sat_search.proofs.Solves.{conflict_at, unit_kept, unit_free, unit_lit, unit_on, unit_falls, decision_falls}
use Rattle.sat_search.proofs.Solves.{decision_on, holds_behind, learnt_holds}

-- the state behind a look, and behind an entry that came
abbrev pub with_taken : State → Taken → State
with_taken s p = record { vars = s.vars; ledger = s.ledger; trail = s.trail; left = s.left; taken = p }

abbrev pub with_trail : State → Entries → State
with_trail s whole = with_ledger s s.ledger whole s.left

pub starts : (vars budget : ℕ) (formula : List (List ℤ)) (book : Ledger) (trail : Entries) (taken : Taken)
    → Tells vars formula [] book → 0 < budget → trail ≡ [] → ((cs : List (List ℤ)) → Holds cs [] taken)
    → Keeps budget formula (record { vars = vars; ledger = book; trail = trail; left = budget; taken = taken })
starts vars budget formula book trail taken t some e h =
    let P : Entries → Type 0 = λ y. Keeps budget formula (record {
      vars = vars;
      ledger = book;
      trail = y;
      left = budget;
      taken = taken;
    }) in
    subst P (sym e) (record {
      searching = begins vars budget formula book t;
      holds = h book.clauses;
      some = some;
    })

module _ (s : State) (k : IsSearch s) where
  pub all_are_lits : AllLits s.ledger.clauses
  all_are_lits = all_lits s.vars s.ledger.clauses k.2.searching.told.small k.2.searching.told.names

  pub stands : Stand s.ledger.clauses s.trail
  stands = k.2.searching.stand

  pub small_vars : s.vars < 2 ^ 63
  small_vars = k.2.searching.told.small

  pub few_clauses : length s.ledger.clauses < 2 ^ 63 - 1
  few_clauses = let f = k.2.searching.told.few in let m = k.2.searching.told.most in omega (arith, f, m)

  -- what it holds is the ledger of some formula
  pub is_ledger : IsLedger s.ledger
  is_ledger = (s.vars, k.1, k.2.searching.learnt, k.2.searching.told)

-- a look keeps the search
pub looks : (budget : ℕ) (formula : List (List ℤ)) (s : State) (p : Taken) (found : Scan) → Keeps budget formula s
    → Looked (with_taken s p) found → Keeps budget formula (with_taken s p)
looks budget formula s p found k h = record {
  searching = k.searching;
  holds = h.1.0;
  some = k.some;
}

comes_from : (budget : ℕ) (formula : List (List ℤ)) (s now : State) (p : Taken) (came : Turn)
    → ComesTo budget formula (with_taken s p) now came → ComesTo budget formula s now came
comes_from budget formula s now p turn.On h = h
comes_from budget formula s now p turn.Satisfied h = h
comes_from budget formula s now p turn.Refuted h = h
comes_from budget formula s now p turn.Spent h = h

-- what comes behind the look comes of the whole turn
pub turns_from : (s : State) (p : Taken) (now : State) (found : Scan) (came : Turn) → Looked (with_taken s p) found
    → Turns (with_taken s p) now came → Turns s now came
turns_from s p now found came h t = (
  t.0,
  λ budget formula k. comes_from budget formula s now p came (t.1 budget formula (looks budget formula s p
      found k h)),
)

module _ (s : State) (place : ℕ) (l : ℤ) (h : Looked s (scan.Unit place l)) where
  pub forced_is_lit : IsSearch s → IsLit (to_z w64 (of_z w64 l))
  forced_is_lit k = unit_lit s.vars k.0 k.1 s.ledger s.trail s.left k.2.searching s.ledger.clauses refl
      place l h.0

  pub forced_is_free : IsSearch s → has (lits s.trail) (to_z w64 (of_z w64 l)) ≡ false
  forced_is_free k = unit_free s.vars k.0 k.1 s.ledger s.trail s.left k.2.searching s.ledger.clauses refl
      place l h.0

  pub forced_kept : IsSearch s → Looked s (scan.Unit place (to_z w64 (of_z w64 l)))
  forced_kept k =
      let e = unit_kept s.vars k.0 k.1 s.ledger s.trail s.left k.2.searching s.ledger.clauses refl place l
      h.0 in
      subst (λ z. Looked s (scan.Unit place z)) (sym e) h

  pub forces : (whole : Entries) → whole ≡ (record { lit = to_z w64 (of_z w64 l); reason = Some place }) ∷ s.trail
      → Turns s (with_trail s whole) turn.On
  forces whole w = (
    refl,
    λ budget formula k. (
      record {
        searching = unit_on s.vars budget formula s.ledger s.trail s.left k.searching s.ledger.clauses refl
            place l h.0 whole w;
        holds = holds_behind s.ledger.clauses s.ledger.clauses s.trail whole s.taken
            (record { lit = to_z w64 (of_z w64 l); reason = Some place }) (scan.Unit place l) refl w h.1
            (λ d. absurd (false≢true d));
        some = k.some;
      },
      unit_falls s.vars budget formula s.ledger s.trail s.left k.searching s.ledger.clauses refl place l h.0 whole w
          (rank s.left s.ledger),
    ),
  )

module _ (s : State) (h : Looked s scan.Settled) where
  pub satisfies : AllAssigned s.vars (lits s.trail) → Turns s s turn.Satisfied
  satisfies a = (
    refl,
    λ budget formula k.
        models s.vars s.ledger.clauses s.trail k.searching.stand a formula k.searching.told.begins
        k.searching.told.names h.0,
  )

  pub decides : (l : ℤ) → IsOpenLit s.vars (lits s.trail) l → (whole : Entries)
      → whole ≡ (record { lit = to_z w64 (of_z w64 l); reason = None }) ∷ s.trail → Turns s (with_trail s whole) turn.On
  decides l o whole w = (
    refl,
    λ budget formula k. (
      record {
        searching = decision_on s.vars budget formula s.ledger s.trail s.left k.searching s.ledger.clauses
            refl
            l o whole w h.0;
        holds = holds_behind s.ledger.clauses s.ledger.clauses s.trail whole s.taken
            (record { lit = to_z w64 (of_z w64 l); reason = None }) scan.Settled refl w h.1 (λ d. refl);
        some = k.some;
      },
      decision_falls s.vars budget formula s.ledger s.trail s.left k.searching s.ledger.clauses refl l o whole w
          (rank s.left s.ledger),
    ),
  )

pub conflicts : (s : State) (place : ℕ) (seen : List (List ℤ)) → seen ≡ s.ledger.clauses → IsSearch s
    → Looked s (scan.Conflict place) → IsConflict seen s.trail place
conflicts s place seen same k h = conflict_at s.vars k.0 k.1 s.ledger s.trail s.left k.2.searching
    s.ledger.clauses refl place seen same h.0

pub false_lits : (s : State) (r : List ℤ) → IsSearch s → AllFalse (lits s.trail) r → AreLits r
false_lits s r k f =
    lits_of s.vars r k.2.searching.told.small (false_literals s.vars k.0 k.1 s.ledger s.trail s.left k.2.searching r f)

many_same : (b : Bool) (a c : ℕ) → b ≡ true → c + cond b 0 1 ≡ a → c ≡ a
many_same true a c e h = omega (arith, h)
many_same false a c e h = absurd (false≢true e)

many_fewer : (b : Bool) (a c : ℕ) → b ≡ false → c + cond b 0 1 ≡ a → c + 1 ≡ a
many_fewer true a c e h = absurd (false≢true (sym e))
many_fewer false a c e h = h

-- a clause is learnt
module _ (s : State) (book : Ledger) (cut : Entries) (r hints : List ℤ) (b : Bool)
    (w : Learns s.ledger.clauses r hints s.trail cut) (a : Adds s.ledger book r hints b) where
  holds_now : (budget : ℕ) (formula : List (List ℤ)) → Keeps budget formula s → Holds book.clauses cut s.taken
  holds_now budget formula k =
      learnt_holds s.ledger.clauses book.clauses r hints s.trail cut s.taken k.searching.stand k.holds w a.clauses_are

  -- one that was dropped comes back
  old_turn : b ≡ false → Turns s (with_ledger s book cut s.left) turn.On
  old_turn e = (
    refl,
    λ budget formula k. (
      record {
        searching = old_on s.vars budget formula s.ledger s.trail s.left k.searching cut book r hints w b a e;
        holds = holds_now budget formula k;
        some = k.some;
      },
      rank_falls s.vars (rank s.left s.ledger) (rank s.left book) cut s.trail
          (old_falls s.left (many s.ledger.dropped) (many book.dropped)
          (many_fewer b (many s.ledger.dropped) (many book.dropped) e a.many_are)),
    ),
  )

  module _ (e : b ≡ true) where
    module _ (budget : ℕ) (formula : List (List ℤ)) (k : Keeps budget formula s) where
      one_fewer : s.left ≡ s.left - 1 + 1
      one_fewer = let some = k.some in omega (arith, some)

      searches_on : Searching s.vars budget formula book cut (s.left - 1)
      searches_on = new_on s.vars budget formula s.ledger s.trail s.left k.searching cut book r hints w b a e
          (s.left - 1) one_fewer

      new_keeps : 0 < s.left - 1 → Keeps budget formula (with_ledger s book cut (s.left - 1))
      new_keeps some = record { searching = searches_on; holds = holds_now budget formula k; some = some }

    new_search : 0 < s.left - 1 → IsSearch s → IsSearch (with_ledger s book cut (s.left - 1))
    new_search some k = (k.0, k.1, new_keeps k.0 k.1 k.2 some)

    few_now : (now : State) → GoesOn (with_ledger s book cut (s.left - 1)) now
        → (many now.ledger.dropped ≡ many s.ledger.dropped) ⊎ (many now.ledger.dropped < 2 ^ 63)
    few_now now g = elim g.few [
      | inl h ↦ inl (h ∙ many_same b (many s.ledger.dropped) (many book.dropped) e a.many_are)
      | inr h ↦ inr h
    ]

    -- a new one, and then what the search goes on with
    new_turn : 0 < s.left - 1 → (now : State) → GoesOn (with_ledger s book cut (s.left - 1)) now
        → Turns s now turn.On
    new_turn some now g = (
      g.vars_are,
      λ budget formula k.
          let P : ℕ → Type 0 = λ z. rounds z (rank now.left now.ledger) now.trail < turns_left s in
          let n : s.left ≡ now.left + 1 = one_fewer budget formula k ∙ ap (λ z. z + 1) (sym g.left_is) in (
            g.keeps budget formula (new_keeps budget formula k some),
            subst P (sym g.vars_are) (rank_falls s.vars (rank s.left s.ledger) (rank now.left now.ledger) now.trail
                s.trail
                (new_falls s.left now.left (many s.ledger.dropped) (many now.ledger.dropped) n (few_now now g))),
          ),
    )

    -- the last one
    last_turn : s.left - 1 ≡ 0 → Turns s (with_ledger s book cut (s.left - 1)) turn.Spent
    last_turn none = (
      refl,
      λ budget formula k.
          let g = searches_on budget formula k in
          let d = derived_now s.vars budget formula book cut (s.left - 1) g in
          let a = added_now s.vars budget formula book cut (s.left - 1) g in (
          record {
            valid = valid_now s.vars budget formula book cut (s.left - 1) g;
            resolved = resolved_now s.vars budget formula book cut (s.left - 1) g;
            spent = omega (arith, d, none);
            bound = bound_now s.vars budget formula book cut (s.left - 1) g none;
            added = a;
            are_steps = are_steps s.vars book.steps k.searching.told.small a;
            short = short_now s.vars budget formula book cut (s.left - 1) g;
          }
          ),
    )

-- the same of the state behind the clause, of which one fewer is left
module _ (s mid : State) (b : Bool) (w : Learned s mid b) where
  pub brings_back : b ≡ false → Turns s mid turn.On
  brings_back e =
      subst (λ z. Turns s z turn.On) (sym w.same)
      (old_turn s mid.ledger mid.trail w.clause w.hints b w.learns w.adds e)

  pub some_left : IsSearch s → 0 < mid.left
  some_left k = subst (λ z. 0 < z.left) (sym w.same) k.2.some

  abbrev fewer : State → State
  fewer z = with_ledger z mid.ledger mid.trail (z.left - 1)

  pub goes_from : b ≡ true → 0 < mid.left - 1 → IsSearch s → IsSearch (fewer mid)
  goes_from e =
      subst (λ z. 0 < z.left - 1 → IsSearch s → IsSearch (fewer z)) (sym w.same)
      (new_search s mid.ledger mid.trail w.clause w.hints b w.learns w.adds e)

  pub goes_to : b ≡ true → 0 < mid.left - 1 → (now : State) → GoesOn (fewer mid) now → Turns s now turn.On
  goes_to e =
      subst (λ z. 0 < z.left - 1 → (now : State) → GoesOn (fewer z) now → Turns s now turn.On) (sym w.same)
      (new_turn s mid.ledger mid.trail w.clause w.hints b w.learns w.adds e)

  pub spends : b ≡ true → mid.left - 1 ≡ 0 → Turns s (fewer mid) turn.Spent
  spends e =
      subst (λ z. z.left - 1 ≡ 0 → Turns s (fewer z) turn.Spent) (sym w.same)
      (last_turn s mid.ledger mid.trail w.clause w.hints b w.learns w.adds e)

-- nothing is dropped
pub stays : (s : State) → GoesOn s s
stays s = record { vars_are = refl; left_is = refl; few = inl refl; keeps = λ budget formula k. k }

-- clauses are dropped, and the search begins anew
pub begins_anew : (s : State) (book : Ledger) (trail : Entries) (p : Taken) → StaysTold s.ledger book
    → many book.dropped < 2 ^ 63 → trail ≡ [] → ((cs : List (List ℤ)) → Holds cs [] p)
    → GoesOn s (record { vars = s.vars; ledger = book; trail = trail; left = s.left; taken = p })
begins_anew s book trail p t few e h =
    let P : Entries → Type 0 = λ z. GoesOn s (record {
      vars = s.vars;
      ledger = book;
      trail = z;
      left = s.left;
      taken = p;
    }) in
    subst P (sym e) (record {
      vars_are = refl;
      left_is = refl;
      few = inr few;
      keeps = λ budget formula k. record {
        searching = anew s.vars budget formula s.ledger s.trail s.left k.searching book
            (t s.vars formula k.searching.learnt k.searching.told);
        holds = h book.clauses;
        some = k.some;
      };
    })

module _ (s : State) (u : Entries) (r hints : List ℤ) (d : Derives s.ledger.clauses u r hints) (empty : r ≡ [])
    (book : Ledger) (b : Bool) (a : Adds s.ledger book r hints b) where
  pub refutes : Turns s (with_ledger s book u s.left) turn.Refuted
  refutes = (
    refl,
    λ budget formula k.
        let added =
        refuted_added s.vars budget formula s.ledger s.trail s.left k.searching u r hints d empty book b a in
        (
        record {
          id = s.ledger.top + 1;
          refutes = refutes_now s.vars budget formula s.ledger s.trail s.left k.searching u r hints d empty book b a;
          fewer = fewer_now s.vars budget formula s.ledger s.trail s.left k.searching u r hints d empty book b a k.some;
          last = refuted_last s.vars budget formula s.ledger s.trail s.left k.searching u r hints d empty book b a;
          added = added;
          are_steps = are_steps s.vars book.steps k.searching.told.small added;
          short = refuted_short s.vars budget formula s.ledger s.trail s.left k.searching u r hints d empty book b a;
        }
        ),
  )

-- what a look at the clauses found
pub looked_at : (s : State) (p : Taken) (seen : List (List ℤ)) (found now : Scan) → seen ≡ s.ledger.clauses
    → Sees seen (lits s.trail) found → HoldsOn seen s.trail p found → found ≡ now → Looked (with_taken s p) now
looked_at s p seen found now same h k e =
    let P : List (List ℤ) → Type 0 = λ z. Sees z (lits s.trail) found × HoldsOn z s.trail p found in
    subst (Looked (with_taken s p)) e (subst P same (h, k))

pub searches_behind : (s : State) (p : Taken) (found : Scan) → Looked (with_taken s p) found → IsSearch s
    → IsSearch (with_taken s p)
searches_behind s p found h k = (k.0, k.1, looks k.0 k.1 s p found k.2 h)

pub turn_from : {E : Type 0} (s : State) (p : Taken) (now : State) (found : Scan) (r : Result Turn E)
    → Looked (with_taken s p) found → IfOk r (Turns (with_taken s p) now) → IfOk r (Turns s now)
turn_from s p now found (Ok came) h t = turns_from s p now found came h t
turn_from s p now found (Err e) h t = t
