-- One entry is taken back: what its reason makes of the clause and of the hints.
use Rattle.std.proofs.Common.{◌≡◌, ℕ, ◌+◌, ◌<◌, Bool, true, false, not, ◌&&◌, ◌||◌, List, [], ◌∷◌, ◌++◌, ℤ}
use Rattle.std.proofs.Common.{pos, neg_ℤ, length, get_or}
use Rattle.std.proofs.Common.{reverse, Option, Some, refl, ap, sym, subst, ◌∙◌, w64, to_z, of_z, arith}
use Rattle.std.specs.Prelude.{unsigned_abs, slice_get}
use Rattle.std.specs.Ordering.{int_eq}
use Rattle.std.proofs.lemmas.Bool.{false≢true}
use Rattle.std.proofs.lemmas.Int.{to_z-of_z, fits_signed_from_abs}
use Rattle.std.proofs.lemmas.List.{reverse-append}
use Rattle.std.proofs.lemmas.Option.{get_or_from_slice_get}
use Rattle.lrat_check.specs.declared.reading.Reading.TheVariants as read
use Rattle.lrat_check.specs.Sets.{has, is_false, without, union, reading, IsLit, AreLits}
use Rattle.sat_trail.specs.declared.trail.Entry.{Entry}
use Rattle.sat_trail.specs.Trail.{Entries, lits, is_decision, decided, below, Because}
use Rattle.sat_propagate.specs.Propagation.{AllLits}
use Rattle.sat_trail.specs.Clauses.{AllFalse, Within}
use Rattle.sat_propagate.specs.Watches.{SameLits}
use Rattle.sat_learn.specs.Analysis.{Derives, SameLevel, NewestIsImplied, is_unit}
use Rattle.sat_trail.proofs.Members.{has_head, has_tail}
use Rattle.sat_propagate.proofs.ByPlace.{lits_at, get_below}
use Rattle.sat_learn.proofs.Tracing.{renamed, resolves, union_without}
use Rattle.sat_learn.proofs.Levels.{level_on, decision_unit}

-- a literal of the code is the number that it stands for
pub lit_kept : (l : ℤ) → IsLit l → to_z w64 (of_z w64 l) ≡ l
lit_kept l k = to_z-of_z w64 l (fits_signed_from_abs w64 l k.1)

neg_lit : (l : ℤ) → IsLit l → IsLit (neg_ℤ l)
neg_lit l k =
    let e : unsigned_abs (neg_ℤ l) ≡ unsigned_abs l = grind arith in (omega (arith, e, k.0), omega (arith, e, k.1))

pub neg_kept : (l c : ℤ) → IsLit l → c ≡ neg_ℤ (to_z w64 (of_z w64 l)) → to_z w64 (of_z w64 c) ≡ neg_ℤ l
neg_kept l c k e = let f : c ≡ neg_ℤ l = e ∙ ap neg_ℤ (lit_kept l k) in ap (λ z. to_z w64 (of_z w64 z)) f
    ∙ lit_kept (neg_ℤ l) (neg_lit l k)

-- the set holds the clause at a false clause's place, and its id is the one hint
pub begun : (clauses : List (List ℤ)) (t : Entries) (place : ℕ) (c d items hints : List ℤ)
    → Derives clauses t c (pos (place + 1) ∷ []) → slice_get clauses place ≡ Some c → d ≡ get_or clauses place d
    → SameLits items d → hints ≡ pos (place + 1) ∷ [] → Derives clauses t items (reverse hints)
begun clauses t place c d items hints made g i s h =
    let Q : List ℤ → Type 0 = λ z. Derives clauses t items (reverse z) in
    subst Q (sym h) (renamed clauses t c items (pos (place + 1) ∷ []) made
    (λ x. s x ∙ ap (λ z. has z x) (i ∙ get_or_from_slice_get clauses place c d g)))

or_swap : (a b : Bool) → (a || b) ≡ (b || a)
or_swap true true = refl
or_swap true false = refl
or_swap false true = refl
or_swap false false = refl

-- the entry's reason, where it has one
module _ (clauses : List (List ℤ)) (e : Entry) (t : Entries) (r hints : List ℤ) (place : ℕ) (c : List ℤ) where
  reason_at : Because clauses (lits t) e.lit e.reason → e.reason ≡ Some place → c ≡ get_or clauses place c
      → (slice_get clauses place ≡ Some c) × (reading (lits t) c ≡ read.Unit e.lit)
  reason_at b h g =
      let P : Option ℕ → Type 0 = λ z. Because clauses (lits t) e.lit z in
      let f : Because clauses (lits t) e.lit (Some place) = subst P h b in
      let same : c ≡ f.0 = g ∙ get_or_from_slice_get clauses place f.0 c f.1 in
      (f.1 ∙ ap Some (sym same), ap (reading (lits t)) same ∙ f.2)

  pub reason_lits : AllLits clauses → Derives clauses (e ∷ t) r (reverse hints) → e.reason ≡ Some place
      → c ≡ get_or clauses place c → AreLits c
  reason_lits k d h g = lits_at clauses place c k (reason_at d.stand.0.because h g).0

  pub reason_below : Derives clauses (e ∷ t) r (reverse hints) → e.reason ≡ Some place → c ≡ get_or clauses place c
      → place < length clauses
  reason_below d h g = get_below clauses place c (reason_at d.stand.0.because h g).0

  pub backed : AllLits clauses → Derives clauses (e ∷ t) r (reverse hints) → has r (neg_ℤ e.lit) ≡ true
      → e.reason ≡ Some place → c ≡ get_or clauses place c → (items : List ℤ)
      → ((x : ℤ) → has items x ≡ ((not (int_eq (neg_ℤ e.lit) x) && has r x) || (not (int_eq e.lit x) && has c x)))
      → (more : List ℤ) → more ≡ hints ++ pos (place + 1) ∷ [] → Derives clauses t items (reverse more)
  backed k d m h g items s more q =
      let a = reason_at d.stand.0.because h g in
      let Q : List ℤ → Type 0 = λ z. Derives clauses t items z in
      subst Q (sym (ap reverse q ∙ reverse-append hints (pos (place + 1) ∷ [])))
      (renamed clauses t (union (without e.lit c) (without (neg_ℤ e.lit) r)) items (pos (place + 1) ∷ reverse hints)
      (resolves clauses e t r (reverse hints) place c d m a.0 a.1 (lits_at clauses place c k a.0))
      (λ x. s x ∙ or_swap (not (int_eq (neg_ℤ e.lit) x) && has r x) (not (int_eq e.lit x) && has c x)
      ∙ sym (union_without e.lit (neg_ℤ e.lit) c r x)))

-- on an empty trail a false clause is empty
pub none_left : (c : List ℤ) (t : Entries) → t ≡ [] → AllFalse (lits t) c → c ≡ []
none_left [] t h a = refl
none_left (l ∷ ls) t h a = absurd (false≢true (ap (λ z. is_false (lits z) l) (sym h) ∙ a l (has_head l ls)))

-- the newest entry of a trail is taken off
module _ (clauses : List (List ℤ)) (whole : Entries) (e : Entry) (t : Entries) (is : whole ≡ e ∷ t) where
  pub implied_at : NewestIsImplied whole → is_decision e ≡ false
  implied_at n = subst NewestIsImplied is n

  pub derives_at : (r hints : List ℤ) → Derives clauses whole r hints → Derives clauses (e ∷ t) r hints
  derives_at r hints d = let P : Entries → Type 0 = λ z. Derives clauses z r hints in subst P is d

  pub level_at : (trail : Entries) → SameLevel trail whole → NewestIsImplied whole → SameLevel trail t
  level_at trail l n =
      let P : Entries → Type 0 = λ z. SameLevel trail z in level_on e t trail (subst P is l) (implied_at n)

  pub part_at : (all : List ℤ) → Within (lits whole) all → Within (lits t) all
  part_at all w x h = w x (ap (λ z. has (lits z) x) is ∙ has_tail x e.lit (lits t) h)

  -- it is a decision
  pub unit_at : (r hints : List ℤ) → Derives clauses whole r hints → is_decision e ≡ true
      → is_unit (reading (lits (below whole)) r) ≡ true
  unit_at r hints d k = ap (λ z. is_unit (reading (lits (below z)) r)) is
      ∙ decision_unit clauses e t r hints (derives_at r hints d) k

-- a trail with a decision isn't empty
pub some_left : (trail t : Entries) → SameLevel trail t → t ≡ [] → ⊥
some_left trail t l e = false≢true (sym (ap decided e) ∙ l.decided)
