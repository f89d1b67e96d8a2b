-- Levels of a trail while a conflict is traced back: a traced clause isn't false below the newest decision, so the
-- decision itself is never resolved on.
use Rattle.std.proofs.Common.{◌≡◌, ℕ, zero, suc, Bool, true, false, ◌||◌, List, [], ◌∷◌, ℤ, neg_ℤ, Option, Some, None}
use Rattle.std.proofs.Common.{refl, ap, sym, subst, ◌∙◌, inl, inr, arith}
use Rattle.std.specs.Prelude.{unsigned_abs}
use Rattle.std.specs.Ordering.{int_eq}
use Rattle.std.proofs.lemmas.Bool.{false≢true, cases_Bool}
use Rattle.lrat_check.specs.declared.reading.Reading.{Reading}
use Rattle.lrat_check.specs.declared.reading.Reading.TheVariants as read
use Rattle.lrat_check.specs.Sets.{has, is_false, reading}
use Rattle.lrat_check.specs.Steps.{Held, numbered}
use Rattle.lrat_check.specs.Resolved.{resolvent, is_open, Closed}
use Rattle.sat_trail.specs.declared.trail.Entry.{Entry}
use Rattle.sat_trail.specs.Trail.{Entries, lits, decides, is_decision, decided, below_at, below, settled, Because}
use Rattle.sat_trail.specs.Trail.{Stand}
use Rattle.sat_trail.specs.Clauses.{AllFalse, Within}
use Rattle.sat_learn.specs.Analysis.{Derives, SameLevel, is_unit}
use Rattle.sat_trail.proofs.Members.{neg_neg, or_left, has_tail}
use Rattle.sat_trail.proofs.Readings.{unit_from}
use Rattle.sat_propagate.proofs.Consistent.{none_true}
use Rattle.sat_propagate.proofs.ByPlace.{none_some, settled_at}
use Rattle.sat_learn.proofs.Tracing.{skips, off_newest}

false_from_ne_true : (b : Bool) → (b ≡ true → ⊥) → b ≡ false
false_from_ne_true true h = absurd (h refl)
false_from_ne_true false h = refl

below_within_at : (reason : Option ℕ) (e : Entry) (t : Entries) → Within (lits (below t)) (lits t)
    → Within (lits (below_at reason t (below t))) (lits (e ∷ t))
below_within_at None e t w x h = has_tail x e.lit (lits t) h
below_within_at (Some place) e t w x h = has_tail x e.lit (lits t) (w x h)

pub below_within : (t : Entries) → Within (lits (below t)) (lits t)
below_within [] x h = h
below_within (e ∷ t) x h = below_within_at e.reason e t (below_within t) x h

-- the newest entry's complement is the one literal that what is older leaves open
alone_below : (clauses : List (List ℤ)) (e : Entry) (t : Entries) (r hints older : List ℤ)
    → Derives clauses (e ∷ t) r hints → Within older (lits t) → has r (neg_ℤ e.lit) ≡ true
    → is_false older (neg_ℤ e.lit) ≡ false →
    ((x : ℤ) → has r x ≡ true → int_eq (neg_ℤ e.lit) x ≡ false → is_false older x ≡ true)
    → is_unit (reading older r) ≡ true
alone_below clauses e t r hints older d w m f others =
    ap is_unit (unit_from older r (neg_ℤ e.lit) (record {
      member = m;
      unfalse = f;
      untrue =
          false_from_ne_true (has older (neg_ℤ e.lit)) (λ h. false≢true (sym d.stand.0.unfalse ∙ w (neg_ℤ e.lit) h));
      others = others;
      none = none_true clauses (e ∷ t) d.stand older r (λ x h. has_tail x e.lit (lits t) (w x h)) d.all_false;
    }))

below_skips_at : (reason : Option ℕ) (t further : Entries) → decides reason ≡ false
    → below_at reason t further ≡ further
below_skips_at None t further h = absurd (false≢true (sym h))
below_skips_at (Some place) t further h = refl

or_right_of : (a b : Bool) → a ≡ false → (a || b) ≡ true → b ≡ true
or_right_of true b e h = absurd (false≢true (sym e))
or_right_of false b e h = h

-- the level stays the same as an implied entry is taken off
pub level_on : (e : Entry) (t trail : Entries) → SameLevel trail (e ∷ t) → is_decision e ≡ false → SameLevel trail t
level_on e t trail l n = record {
  decided = or_right_of (is_decision e) (decided t) n l.decided;
  older_is = sym (below_skips_at e.reason t (below t) n) ∙ l.older_is;
}

settled_below_at : (clauses : List (List ℤ)) (reason : Option ℕ) (e : Entry) (t : Entries)
    → Because clauses (lits t) e.lit reason → (decided t ≡ true → settled clauses (lits (below t)) ≡ true)
    → (decides reason || decided t) ≡ true → settled clauses (lits (below_at reason t (below t))) ≡ true
settled_below_at clauses None e t b rest h = b
settled_below_at clauses (Some place) e t b rest h = rest h

-- what is older than the newest decision leaves each clause open
pub settled_below : (clauses : List (List ℤ)) (t : Entries) → Stand clauses t → decided t ≡ true
    → settled clauses (lits (below t)) ≡ true
settled_below clauses [] s h = absurd (false≢true h)
settled_below clauses (e ∷ t) s h = settled_below_at clauses e.reason e t s.0.because (settled_below clauses t s.1) h

resolvent_none : (held : Held) (set : List ℤ) (h : ℤ) (hs : List ℤ) → held (unsigned_abs h) ≡ None
    → resolvent held set (h ∷ hs) ≡ None
resolvent_none held set h hs g = grind (arith, g)

resolvent_true : (held : Held) (set : List ℤ) (h : ℤ) (hs c : List ℤ) → held (unsigned_abs h) ≡ Some c
    → reading set c ≡ read.True → resolvent held set (h ∷ hs) ≡ None
resolvent_true held set h hs c g f = grind (arith, g, f)

resolvent_open : (held : Held) (set : List ℤ) (h : ℤ) (hs c : List ℤ) → held (unsigned_abs h) ≡ Some c
    → reading set c ≡ read.Open → resolvent held set (h ∷ hs) ≡ None
resolvent_open held set h hs c g f = grind (arith, g, f)

none_read : (held : Held) (set : List ℤ) (h : ℤ) (hs c : List ℤ) → held (unsigned_abs h) ≡ Some c
    → (now : Reading) → reading set c ≡ now → is_open now ≡ true → resolvent held set (h ∷ hs) ≡ None
none_read held set h hs c g read.True e o = resolvent_true held set h hs c g e
none_read held set h hs c g read.False e o = absurd (false≢true o)
none_read held set h hs c g (read.Unit l) e o = absurd (false≢true o)
none_read held set h hs c g read.Open e o = resolvent_open held set h hs c g e

none_held : (held : Held) (set : List ℤ) (h : ℤ) (hs : List ℤ) → Closed held set → (o : Option (List ℤ))
    → held (unsigned_abs h) ≡ o → resolvent held set (h ∷ hs) ≡ None
none_held held set h hs k None g = resolvent_none held set h hs g
none_held held set h hs k (Some c) g =
    none_read held set h hs c g (reading set c) refl (k (unsigned_abs h) c g)

-- where each clause has a true literal or two open ones, hints lead nowhere
none_closed : (held : Held) (set hints r : List ℤ) → Closed held set → resolvent held set hints ≡ Some r → ⊥
none_closed held set [] r k e = none_some r e
none_closed held set (h ∷ hs) r k e =
    none_some r (sym (none_held held set h hs k (held (unsigned_abs h)) refl) ∙ e)

pub closed_numbered : (clauses : List (List ℤ)) (set : List ℤ) → settled clauses set ≡ true
    → Closed (numbered clauses) set
closed_numbered clauses set s zero c e = absurd (none_some c e)
closed_numbered clauses set s (suc place) c e = settled_at clauses set place c s e

-- what is older than the newest decision doesn't make a traced clause false
pub not_below : (clauses : List (List ℤ)) (t : Entries) (r hints : List ℤ) → Derives clauses t r hints
    → decided t ≡ true → AllFalse (lits (below t)) r → ⊥
not_below clauses t r hints d k a =
    let g = d.gives (lits (below t)) (below_within t) a in
    none_closed (numbered clauses) (lits (below t)) hints g.0
    (closed_numbered clauses (lits (below t)) (settled_below clauses t d.stand k)) g.1

below_here_at : (reason : Option ℕ) (t further : Entries) → decides reason ≡ true → below_at reason t further ≡ t
below_here_at None t further h = refl
below_here_at (Some place) t further h = absurd (false≢true h)

-- where the newest entry is a decision, its complement alone is open below it
pub decision_unit : (clauses : List (List ℤ)) (e : Entry) (t : Entries) (r hints : List ℤ)
    → Derives clauses (e ∷ t) r hints → is_decision e ≡ true → is_unit (reading (lits (below (e ∷ t))) r) ≡ true
decision_unit clauses e t r hints d k =
    let here : below (e ∷ t) ≡ t = below_here_at e.reason t (below t) k in
    let some : decided (e ∷ t) ≡ true = or_left (is_decision e) (decided t) k in
    subst (λ z. is_unit (reading (lits z) r) ≡ true) (sym here) (elim (cases_Bool (has r (neg_ℤ e.lit))) [
      | inl m ↦ alone_below clauses e t r hints (lits t) d (λ x h. h) m
          (ap (has (lits t)) (neg_neg e.lit) ∙ d.stand.0.free) (λ x h n. off_newest e t x (d.all_false x h) n)
      | inr m ↦ absurd (not_below clauses (e ∷ t) r hints d some
          (subst (λ z. AllFalse (lits z) r) (sym here) (skips clauses e t r hints d m).all_false))
    ])
