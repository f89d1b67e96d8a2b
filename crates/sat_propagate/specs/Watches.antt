-- Between functions: What a search keeps of its watches between two looks, and what a look finds. Rules of this
-- project.
use Rattle.std.specs.Prelude.{
  ℕ,
  ◌<◌,
  ◌≡◌,
  Bool,
  true,
  false,
  not,
  List,
  [],
  ◌∷◌,
  ℤ,
  pos,
  length,
  slice_index_or,
}
use Rattle.std.specs.Prelude.{Option, Some, None, MatchOption}
use Rattle.std.specs.Ordering.{int_eq}
use Rattle.lrat_check.specs.Codes.{lit_of, codes_of}
use Rattle.lrat_check.specs.Sets.{has, is_false, reading, IsLit}
use Rattle.lrat_check.specs.Steps.{Held}
use Rattle.lrat_check.specs.Resolved.{is_open, Closed}
use Rattle.lrat_check.specs.Store.{Clauses, Coded, coded, next, held_of, with_code}
use Rattle.sat_trail.specs.Clauses.{AllFalse}
use Rattle.sat_trail.specs.Trail.{Entries, lits, oldest, is_decision, true_codes, Outlasts}
use Rattle.sat_propagate.specs.declared.watch.Watch.{Watch}
use Rattle.sat_propagate.specs.declared.watch_scan.Scan.{Scan}
use Rattle.sat_propagate.specs.declared.watch_scan.Scan.TheVariants as scan
use Rattle.sat_propagate.specs.Watching.{lists_of, Watched, Calm, CalmBelow, Ready, AreFit}

-- the clauses; the watches of each literal; how many entries of the trail were gone through; the literal whose list is
-- gone through, and what is left of it
pub record State : Type 0 where
  pub store : Clauses
  pub lists : List (List Watch)
  pub head : ℕ
  pub code : ℕ
  pub rest : List Watch

-- whatever becomes true, what was gone through is known; so it is with what is older than each decision
pub record Keeps (w : State) (trail : Entries) : Type 0 where
  pub watched : Watched (coded w.store) (lists_of w.lists) (true_codes (oldest w.head trail)) (true_codes trail)
      w.code w.rest
  pub calm : CalmBelow (coded w.store) trail
  pub ready : Ready (coded w.store) (next w.store) (lists_of w.lists)
  pub fit : AreFit (coded w.store) (next w.store) w.rest
  pub lit : IsLit (lit_of w.code)

-- the literal of the clause alone is open
pub record Forced (set clause : List ℤ) (lit : ℤ) : Type 0 where
  pub member : has clause lit ≡ true
  pub untrue : has set lit ≡ false
  pub unfalse : is_false set lit ≡ false
  pub others : (x : ℤ) → has clause x ≡ true → int_eq lit x ≡ false → is_false set x ≡ true

-- the id's clause is false, or forces the literal, or each clause has a true literal or two different open ones
abbrev pub Sees : Held → List ℤ → Scan → Type 0
Sees held set (scan.Conflict id) = (clause : List ℤ) × (held id ≡ Some clause) × AllFalse set clause
Sees held set (scan.Unit id lit) = (clause : List ℤ) × (held id ≡ Some clause) × Forced set clause lit
Sees held set scan.Settled = Closed held set

-- where all is settled, all is calm
abbrev pub CalmWhere : Clauses → Entries → Scan → Type 0
CalmWhere store trail (scan.Conflict id) = Unit {0}
CalmWhere store trail (scan.Unit id lit) = Unit {0}
CalmWhere store trail scan.Settled = Calm (coded store) (true_codes trail)

abbrev pub scan_at : ℕ → Option ℕ → Scan
scan_at id None = scan.Conflict id
scan_at id (Some code) = scan.Unit id (lit_of code)

-- what a part of a look finds; where it finds nothing, the list was gone through
abbrev pub Finds : State → Entries → Option Scan → Type 0
Finds w trail None = w.rest ≡ []
Finds w trail (Some found) = Sees (held_of w.store) (lits trail) found × CalmWhere w.store trail found

-- the literal at the place of the clause
abbrev pub lit_at : List ℤ → ℕ → ℤ
lit_at clause place = slice_index_or clause place (pos 0)

-- both hold the same literals
abbrev pub SameLits : List ℤ → List ℤ → Type 0
SameLits a b = (x : ℤ) → has a x ≡ has b x

-- a literal other than the one that is taken
abbrev pub is_other : Option ℤ → ℤ → Bool
is_other None lit = true
is_other (Some taken) lit = not (int_eq taken lit)

-- among so many literals of the clause, those that are taken aside, the one that no other outlasts
abbrev pub Latest : Entries → List ℤ → Option ℤ → ℕ → Option ℕ → Type 0
Latest trail clause taken end best = MatchOption best
    ((k : ℕ) → k < end → is_other taken (lit_at clause k) ≡ false)
    (λ j. (j < end) × (is_other taken (lit_at clause j) ≡ true)
    × ((k : ℕ) → k < end → is_other taken (lit_at clause k) ≡ true
    → Outlasts trail (lit_at clause j) (lit_at clause k)))

-- the first two literals are different; no literal outlasts the first, and none but the first the second
pub record Leads (trail : Entries) (clause : List ℤ) : Type 0 where
  pub long : 1 < length clause
  pub apart : int_eq (lit_at clause 0) (lit_at clause 1) ≡ false
  pub first : (x : ℤ) → has clause x ≡ true → Outlasts trail (lit_at clause 0) x
  pub second : (x : ℤ) → has clause x ≡ true → int_eq (lit_at clause 0) x ≡ false
      → Outlasts trail (lit_at clause 1) x

-- no two literals are different
abbrev pub OneAlone : List ℤ → Type 0
OneAlone clause = (x y : ℤ) → has clause x ≡ true → has clause y ≡ true → int_eq x y ≡ true

-- at each decision the clause had a true literal or two different open ones
abbrev pub OpenBelow : List ℤ → Entries → Type 0
OpenBelow clause [] = Unit {0}
OpenBelow clause (e ∷ older) =
    (is_decision e ≡ true → is_open (reading (lits older) clause) ≡ true) × OpenBelow clause older

-- the clause joins the held ones, its literals in some order; where it has no two different ones it doesn't
abbrev pub Adds : Coded → Coded → ℕ → List ℤ → Bool → Type 0
Adds held now id lits true =
    (clause : List ℤ) × (now ≡ with_code held id (codes_of clause)) × SameLits lits clause
Adds held now id lits false = (now ≡ held) × OneAlone lits
