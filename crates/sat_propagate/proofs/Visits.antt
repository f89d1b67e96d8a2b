-- A watch is dealt with.
use Rattle.std.proofs.Common.{◌≡◌, ℕ, ◌<◌, true, eqb, List, [], ◌∷◌}
use Rattle.std.proofs.Common.{get_or, Some, None, ap, sym, subst, ◌∙◌, inl, inr}
use Rattle.std.specs.List.{swap}
use Rattle.std.proofs.lemmas.Bool.{false≢true}
use Rattle.lrat_check.specs.Codes.{lit_of, lits_of}
use Rattle.lrat_check.specs.Sets.{IsLit, AreLits}
use Rattle.lrat_check.specs.Store.{Coded, with_code}
use Rattle.sat_trail.specs.Trail.{has_code}
use Rattle.sat_trail.proofs.Members.{or_left, or_right, or_cases}
use Rattle.sat_propagate.specs.declared.watch.Watch.{Watch}
use Rattle.sat_propagate.specs.Watching.{Among, satisfied, Lists, with_watch, Watched, Calm, MovesTo}
use Rattle.sat_propagate.specs.Watching.{Passes, KeepsCalm}
use Rattle.sat_propagate.proofs.Quiets.{eq_is, some_is, pushes, drops, moves, calm_kept, Moves}

-- a literal of the clause that is true satisfies it
pub satisfies : (set c : List ℕ) (x : ℕ) → has_code c x ≡ true → has_code set x ≡ true → satisfied set c ≡ true
satisfies set [] x h k = absurd (false≢true h)
satisfies set (l ∷ ls) x h k = elim (or_cases (eqb x l) (has_code ls x) h) [
  | inl e ↦ or_left (has_code set l) (satisfied set ls) (ap (has_code set) (sym (eq_is x l e)) ∙ k)
  | inr e ↦ or_right (has_code set l) (satisfied set ls) (satisfies set ls x e k)
]

pub lit_at : (c : List ℕ) (x : ℕ) → AreLits (lits_of c) → has_code c x ≡ true → IsLit (lit_of x)
lit_at [] x a h = absurd (false≢true h)
lit_at (l ∷ ls) x a h = elim (or_cases (eqb x l) (has_code ls x) h) [
  | inl e ↦ subst (λ y. IsLit (lit_of y)) (sym (eq_is x l e)) a.0
  | inr e ↦ lit_at ls x a.1 e
]

-- the watch is pushed onto the same list, as a literal of its clause is true
pub passed : (held : Coded) (lists lists_now : Lists) (set : List ℕ) (code : ℕ) (w v : Watch)
    → lists_now ≡ with_watch lists code v → v.id ≡ w.id
    → ((c : List ℕ) → held w.id ≡ Some c → satisfied set c ≡ true)
    → Passes held held lists lists_now set code w
passed held lists lists_now set code w v j e t done rest u s =
    let P : Lists → Type 0 = λ z. Watched held z done set code rest in
    subst P (sym j) (pushes held lists done set code w v rest s e (λ c h f. t c h))

-- as above, where the clause is known
pub passed_by : (held : Coded) (lists lists_now : Lists) (set : List ℕ) (code : ℕ) (w v : Watch) (c : List ℕ) (x : ℕ)
    → lists_now ≡ with_watch lists code v → v.id ≡ w.id → held w.id ≡ Some c → has_code c x ≡ true
    → has_code set x ≡ true → Passes held held lists lists_now set code w
passed_by held lists lists_now set code w v c x j e f h k =
    passed held lists lists_now set code w v j e
    (λ d g. subst (λ z. satisfied set z ≡ true) (some_is c d (sym f ∙ g)) (satisfies set c x h k))

-- the watch is dropped, as its clause isn't held or not watched there
pub dropped : (held : Coded) (lists : Lists) (set : List ℕ) (code : ℕ) (w : Watch)
    → ((c : List ℕ) (place : ℕ) → held w.id ≡ Some c → place < 2 → get_or c place 0 ≡ code → ⊥)
    → Passes held held lists lists set code w
dropped held lists set code w t done rest u s = drops held lists done set code w rest s t

none_some : (c : List ℕ) → None ≡ Some c → ⊥
none_some c e = cc

pub dropped_none : (held : Coded) (lists : Lists) (set : List ℕ) (code : ℕ) (w : Watch) → held w.id ≡ None
    → Passes held held lists lists set code w
dropped_none held lists set code w n =
    dropped held lists set code w (λ c place h l e. none_some c (sym n ∙ h))

pub dropped_stale : (held : Coded) (lists : Lists) (set : List ℕ) (code : ℕ) (w : Watch) (c : List ℕ)
    → held w.id ≡ Some c → ((place : ℕ) → place < 2 → get_or c place 0 ≡ code → ⊥)
    → Passes held held lists lists set code w
dropped_stale held lists set code w c f t =
    dropped held lists set code w (λ d place h l e.
    t place l (ap (λ z. get_or z place 0) (some_is c d (sym f ∙ h)) ∙ e))

module _ (held now : Coded) (lists lists_now : Lists) (set : List ℕ) (code : ℕ) (w v : Watch) (c : List ℕ)
    (place k next other : ℕ) where
  as_moves : (done : List ℕ) → held w.id ≡ Some c → MovesTo set c code place k next other → Among done set
      → Moves held done set code w c place k
  as_moves done f l u = record {
    found = f;
    low = l.low;
    here = l.here;
    beyond = l.free.beyond;
    within = l.free.within;
    unfalse = l.free.unfalse;
    other = ap (eqb (get_or c k 0)) (sym l.other_is) ∙ l.free.unlike;
    part = u;
  }

  pub moved : held w.id ≡ Some c → MovesTo set c code place k next other → v.id ≡ w.id
      → now ≡ with_code held w.id (swap c place k) → lists_now ≡ with_watch lists next v
      → Passes held now lists lists_now set code w
  moved f l e h j done rest u s =
      let P : Coded → Type 0 = λ z. Watched z lists_now done set code rest in
      let Q : Lists → Type 0 = λ z. Watched (with_code held w.id (swap c place k)) z done set code rest in
      subst P (sym h) (subst Q (sym (j ∙ ap (λ x. with_watch lists x v) l.next_is))
      (moves held lists done set code w v rest c place k s (as_moves done f l u) e))

  pub calm_moved : held w.id ≡ Some c → MovesTo set c code place k next other → v.id ≡ w.id
      → now ≡ with_code held w.id (swap c place k) → KeepsCalm held now lists set code w
  calm_moved f l e h done rest older u s o z =
      let P : Coded → Type 0 = λ y. Calm y older in
      subst P (sym h) (calm_kept held lists done set code w v rest c place k s (as_moves done f l u) e older o z)
