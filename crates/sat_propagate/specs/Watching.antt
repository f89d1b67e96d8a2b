-- Between functions: Watched places: what a search keeps of clauses, of the lists of watches and of what is true. The
-- first two places of a clause are watched, and each literal has a list of the clauses that may be watched there.
-- Literals are codes. Rules of this project, after the two watched literals of conflict-driven clause learning.
use Rattle.std.specs.Prelude.{
  ℕ,
  ◌-◌,
  ◌<◌,
  ◌≡◌,
  ◌==◌,
  ◌⊎◌,
  Bool,
  true,
  false,
  if◌then◌else◌,
  List,
  [],
  ◌∷◌,
  ◌++◌,
}
use Rattle.std.specs.Prelude.{length, map, slice_index_or, Option, Some, None}
use Rattle.std.specs.Global.{Vec}
use Rattle.std.specs.List.{AllByRecursion, list_any}
use Rattle.lrat_check.specs.Codes.{flip, lit_of, lits_of}
use Rattle.lrat_check.specs.Sets.{IsLit, AreLits}
use Rattle.lrat_check.specs.Store.{Coded}
use Rattle.sat_trail.specs.Trail.{Entries, is_decision, true_codes, has_code}
use Rattle.sat_propagate.specs.declared.watch.Watch.{Watch}
use Rattle.sat_propagate.specs.declared.look.Sight.{Sight}
use Rattle.sat_propagate.specs.declared.look.Sight.TheVariants as sight
use Rattle.sat_propagate.specs.declared.visit.Visit.{Visit}
use Rattle.sat_propagate.specs.declared.visit.Visit.TheVariants as visit

-- the code of the complement is in the set
abbrev pub is_false_code : List ℕ → ℕ → Bool
is_false_code set code = has_code set (flip code)

-- each code of a is in b
abbrev pub Among : List ℕ → List ℕ → Type 0
Among a b = (code : ℕ) → has_code a code ≡ true → has_code b code ≡ true

-- a literal of the clause is true
abbrev pub satisfied : List ℕ → List ℕ → Bool
satisfied set clause = list_any (has_code set) clause

-- the literal at the place of the clause
abbrev pub at_place : List ℕ → ℕ → ℕ
at_place clause place = slice_index_or clause place 0

-- the watches of each literal
abbrev pub Lists : Type 0
Lists = ℕ → List Watch

abbrev pub lists_of : List (List Watch) → Lists
lists_of lists = λ code. slice_index_or lists code []

-- the same of lists as they are stored
abbrev pub items_of : List (Vec Watch) → List (List Watch)
items_of lists = map (λ v. v.items) lists

abbrev pub watch_at : ℕ → ℕ → Watch
watch_at id blocker = record { id = id; blocker = blocker }

abbrev pub is_listed : List Watch → ℕ → Bool
is_listed watches id = list_any (λ w. w.id == id) watches

-- the watch joins the list of the literal
abbrev pub with_watch : Lists → ℕ → Watch → Lists
with_watch lists code w = λ x. if code == x then lists x ++ w ∷ [] else lists x

-- the list of the literal is taken out
abbrev pub taken : Lists → ℕ → Lists
taken lists code = λ x. if code == x then [] else lists x

-- watches go in front of the literal's list
abbrev pub joined : Lists → ℕ → List Watch → Lists
joined lists code watches = λ x. if code == x then watches ++ lists x else lists x

-- the clause's id is in the literal's list; and where the literal became false and its list was gone through, the
-- clause has a true literal
pub record Quiet (lists : Lists) (done set : List ℕ) (id : ℕ) (clause : List ℕ) (code : ℕ) : Type 0 where
  pub inside : is_listed (lists code) id ≡ true
  pub calm : is_false_code done code ≡ true → satisfied set clause ≡ true

-- each clause has two watched literals, which are different; each of them is quiet, or its list is gone through and the
-- entry still comes. So much of what is true (set) was gone through (done)
pub record Watched (held : Coded) (lists : Lists) (done set : List ℕ) (code : ℕ) (rest : List Watch) : Type 0 where
  pub two : (id : ℕ) (clause : List ℕ) → held id ≡ Some clause → 1 < length clause
  pub apart : (id : ℕ) (clause : List ℕ) → held id ≡ Some clause
      → (at_place clause 0 == at_place clause 1) ≡ false
  pub kept : (id : ℕ) (clause : List ℕ) (place : ℕ) → held id ≡ Some clause → place < 2
      → Quiet lists done set id clause (at_place clause place)
      ⊎ ((at_place clause place ≡ code) × (is_listed rest id ≡ true))

-- a clause with a false watched literal has a true literal
abbrev pub Calm : Coded → List ℕ → Type 0
Calm held set = (id : ℕ) (clause : List ℕ) (place : ℕ) → held id ≡ Some clause → place < 2
    → is_false_code set (at_place clause place) ≡ true → satisfied set clause ≡ true

-- so it is with what is older than each decision
abbrev pub CalmBelow : Coded → Entries → Type 0
CalmBelow held [] = Unit {0}
CalmBelow held (e ∷ older) = (is_decision e ≡ true → Calm held (true_codes older)) × CalmBelow held older

-- the id is below the bound, and the blocker is a literal of its clause
pub record Fits (held : Coded) (bound : ℕ) (w : Watch) : Type 0 where
  pub known : w.id < bound
  pub lit : IsLit (lit_of w.blocker)
  pub stands : (clause : List ℕ) → held w.id ≡ Some clause → has_code clause w.blocker ≡ true

abbrev pub AreFit : Coded → ℕ → List Watch → Type 0
AreFit held bound watches = AllByRecursion (Fits held bound) watches

-- clauses of two literals or more, and lists that fit
pub record Ready (held : Coded) (bound : ℕ) (lists : Lists) : Type 0 where
  pub lits : (id : ℕ) (clause : List ℕ) → held id ≡ Some clause → AreLits (lits_of clause)
  pub long : (id : ℕ) (clause : List ℕ) → held id ≡ Some clause → 1 < length clause
  pub fit : (code : ℕ) → AreFit held bound (lists code)

-- from a place on each literal is false or the other one
abbrev pub NoneFrom : List ℕ → List ℕ → ℕ → ℕ → Type 0
NoneFrom set clause other end = (k : ℕ) → 1 < k → k < end → (at_place clause k == other) ≡ false
    → is_false_code set (at_place clause k) ≡ true

-- the literal at the place isn't watched, nor false, nor the other one
pub record Free (set clause : List ℕ) (other k : ℕ) : Type 0 where
  pub beyond : 1 < k
  pub within : k < length clause
  pub unfalse : is_false_code set (at_place clause k) ≡ false
  pub unlike : (at_place clause k == other) ≡ false

-- each literal of the clause is false
abbrev pub AllFalseCodes : List ℕ → List ℕ → Type 0
AllFalseCodes set clause = (x : ℕ) → has_code clause x ≡ true → is_false_code set x ≡ true

-- the literal alone is open
pub record AloneCode (set clause : List ℕ) (code : ℕ) : Type 0 where
  pub member : has_code clause code ≡ true
  pub untrue : has_code set code ≡ false
  pub unfalse : is_false_code set code ≡ false
  pub others : (x : ℕ) → has_code clause x ≡ true → (x == code) ≡ false → is_false_code set x ≡ true

-- the watch goes from the first place to the second, at which there is `next`; the other watched literal
pub record MovesTo (set clause : List ℕ) (code place k next other : ℕ) : Type 0 where
  pub low : place < 2
  pub here : at_place clause place ≡ code
  pub other_is : other ≡ at_place clause (1 - place)
  pub next_is : next ≡ at_place clause k
  pub free : Free set clause other k

-- what becomes of a clause as a literal became false: it isn't watched there; a literal is true; the watch goes
-- elsewhere; one literal is left; all are false
abbrev pub Looks : List ℕ → List ℕ → ℕ → Sight → Type 0
Looks set clause code sight.Stale = (place : ℕ) → place < 2 → at_place clause place ≡ code → ⊥
Looks set clause code (sight.True other) = (has_code clause other ≡ true) × (has_code set other ≡ true)
Looks set clause code (sight.Move place k next other) = MovesTo set clause code place k next other
Looks set clause code (sight.Last other) = AloneCode set clause other
Looks set clause code sight.False = AllFalseCodes set clause

-- the id's clause is false
abbrev pub IsFalse : Coded → List ℕ → ℕ → Type 0
IsFalse held set id = (clause : List ℕ) × (held id ≡ Some clause) × AllFalseCodes set clause

-- the id's clause forces the literal
abbrev pub Forces : Coded → List ℕ → ℕ → ℕ → Type 0
Forces held set id code = (clause : List ℕ) × (held id ≡ Some clause) × AloneCode set clause code

-- from a list that is gone through: what is left of it once the watch is dealt with
abbrev pub Passes : Coded → Coded → Lists → Lists → List ℕ → ℕ → Watch → Type 0
Passes held now lists lists_now set code w = (done : List ℕ) (rest : List Watch) → Among done set
    → Watched held lists done set code (w ∷ rest) → Watched now lists_now done set code rest

abbrev pub Visits : Coded → Coded → Lists → Lists → List ℕ → ℕ → Watch → Visit → Type 0
Visits held now lists lists_now set code w visit.Passed = Passes held now lists lists_now set code w
Visits held now lists lists_now set code w (visit.Unit other) =
    (held ≡ now) × (lists ≡ lists_now) × Forces held set w.id other
Visits held now lists lists_now set code w visit.Conflict =
    (held ≡ now) × (lists ≡ lists_now) × IsFalse held set w.id

-- what is older than a decision stays calm
abbrev pub KeepsCalm : Coded → Coded → Lists → List ℕ → ℕ → Watch → Type 0
KeepsCalm held now lists set code w = (done : List ℕ) (rest : List Watch) (older : List ℕ) → Among done set
    → Watched held lists done set code (w ∷ rest) → Among older set → Calm held older → Calm now older

-- watches that fit still do
abbrev pub KeepsFit : Coded → Coded → ℕ → Type 0
KeepsFit held now bound = (w : Watch) → Fits held bound w → Fits now bound w

-- both hold no clause, or clauses with the same literals
abbrev pub Alike : Option (List ℕ) → Option (List ℕ) → Type 0
Alike None None = Unit {0}
Alike None (Some b) = ⊥
Alike (Some a) None = ⊥
Alike (Some a) (Some b) = (x : ℕ) → has_code a x ≡ has_code b x

-- each id holds the same literals
abbrev pub SameHeld : Coded → Coded → Type 0
SameHeld held now = (id : ℕ) → Alike (held id) (now id)

-- the id's clause is false, or forces the literal
abbrev pub Stops : Coded → List ℕ → ℕ → Option ℕ → Type 0
Stops held set id None = IsFalse held set id
Stops held set id (Some code) = Forces held set id code

-- the list was gone through up to what is left; what is older than a decision stays calm
abbrev pub Going : Coded → Coded → Lists → Lists → List ℕ → ℕ → List Watch → List Watch → Type 0
Going held now lists lists_now set code watches left = (done : List ℕ) → Among done set
    → Watched held lists done set code watches
    → Watched now lists_now done set code left
    × ((older : List ℕ) → Among older set → Calm held older → Calm now older)
