-- What holds of clauses by their places holds of them by their ids.
use Rattle.std.proofs.Common.{◌≡◌, ℕ, zero, suc, ◌-◌, ◌^◌, ◌<◌, Bool, false, List, [], ◌∷◌, ◌++◌, ℤ, pos}
use Rattle.std.proofs.Common.{length, Option, Some, None, refl, ap, sym, subst, ◌∙◌, arith, inl, inr}
use Rattle.std.specs.Prelude.{unsigned_abs, slice_get}
use Rattle.std.specs.List.{list_any}
use Rattle.std.proofs.lemmas.Bool.{cases_lt, lt-leb, or_from}
use Rattle.std.proofs.lemmas.List.{get_or_past}
use Rattle.std.proofs.lemmas.Option.{slice_get_within, slice_get-get_or}
use Rattle.lrat_check.specs.declared.reading.Reading.{Reading}
use Rattle.lrat_check.specs.declared.reading.Reading.TheVariants as read
use Rattle.lrat_check.specs.Sets.{negs, reading}
use Rattle.lrat_check.specs.Steps.{Held, numbered, is_negative, is_empty}
use Rattle.lrat_check.specs.Resolved.{resolvent, resolved_on, resolved_by, resolved_with, IsResolvent, Strengthens}
use Rattle.sat_search.specs.Ledger.{State, id_at, by_ids, HoldsBy, Tells}
use Rattle.sat_search.proofs.Places.{none_some}

by_unit : (c r : List ℤ) (l : ℤ) (o p : Option (List ℤ)) → ((q : List ℤ) → o ≡ Some q → p ≡ Some q)
    → resolved_on c l o ≡ Some r → resolved_on c l p ≡ Some r
by_unit c r l None p k e = absurd (none_some r e)
by_unit c r l (Some q) p k e = ap (resolved_on c l) (k q refl) ∙ e

by_reading : (now : Reading) (c r : List ℤ) (last : Bool) (x y : ℤ → Option (List ℤ))
    → ((l : ℤ) (q : List ℤ) → x l ≡ Some q → y l ≡ Some q) → resolved_by now c last x ≡ Some r
    → resolved_by now c last y ≡ Some r
by_reading read.True c r last x y k e = e
by_reading read.False c r last x y k e = e
by_reading (read.Unit l) c r last x y k e = by_unit c r l (x l) (y l) (k l) e
by_reading read.Open c r last x y k e = e

same_empty : (ids : List ℕ) (hs : List ℤ) → is_empty (by_ids ids hs) ≡ is_empty hs
same_empty ids [] = refl
same_empty ids (h ∷ hs) = refl

not_negative : (n : ℕ) → is_negative (pos n) ≡ false
not_negative n = lt-leb (suc n) 0 (omega arith)

-- no id is negative
pub never_negative : (ids : List ℕ) (hints : List ℤ) → list_any is_negative (by_ids ids hints) ≡ false
never_negative ids [] = refl
never_negative ids (h ∷ hs) =
    or_from (is_negative (pos (id_at ids (unsigned_abs h - 1)))) (list_any is_negative (by_ids ids hs))
    (not_negative (id_at ids (unsigned_abs h - 1))) (never_negative ids hs)

module _ (held : Held) (ids : List ℕ) (clauses : List (List ℤ)) (b : HoldsBy held ids clauses) where
  at_id : (place : ℕ) (c : List ℤ) → slice_get clauses place ≡ Some c → held (id_at ids place) ≡ Some c
  at_id place c e =
      let w = slice_get_within clauses place c e in
      let m = b.many in
      b.at place (id_at ids place) c (slice_get-get_or ids place 0 (omega (arith, w, m))) e

  at_hint : (n : ℕ) (c : List ℤ) → numbered clauses n ≡ Some c → held (id_at ids (n - 1)) ≡ Some c
  at_hint zero c e = absurd (none_some c e)
  at_hint (suc place) c e =
      let q : suc place - 1 ≡ place = omega arith in
      let P : ℕ → Type 0 = λ k. held (id_at ids k) ≡ Some c in
      subst P (sym q) (at_id place c e)

  by_hint : (set : List ℤ) (h : ℤ) (hs r : List ℤ) (o : Option (List ℤ)) → numbered clauses (unsigned_abs h) ≡ o
      → resolved_with o set (is_empty hs) (λ l. resolvent (numbered clauses) (set ++ l ∷ []) hs) ≡ Some r
      → ((s q : List ℤ) → resolvent (numbered clauses) s hs ≡ Some q → resolvent held s (by_ids ids hs) ≡ Some q)
      → resolvent held set (by_ids ids (h ∷ hs)) ≡ Some r
  by_hint set h hs r None g e rest = absurd (none_some r e)
  by_hint set h hs r (Some c) g e rest =
      ap (λ o. resolved_with o set (is_empty (by_ids ids hs)) (λ l. resolvent held (set ++ l ∷ []) (by_ids ids hs)))
      (at_hint (unsigned_abs h) c g)
      ∙ ap (λ z. resolved_with (Some c) set z (λ l. resolvent held (set ++ l ∷ []) (by_ids ids hs))) (same_empty ids hs)
      ∙ by_reading (reading set c) c r (is_empty hs) (λ l. resolvent (numbered clauses) (set ++ l ∷ []) hs)
      (λ l. resolvent held (set ++ l ∷ []) (by_ids ids hs)) (λ l q k. rest (set ++ l ∷ []) q k) e

  resolves : (set hints r : List ℤ) → resolvent (numbered clauses) set hints ≡ Some r
      → resolvent held set (by_ids ids hints) ≡ Some r
  resolves set [] r e = absurd (none_some r e)
  resolves set (h ∷ hs) r e =
      by_hint set h hs r (numbered clauses (unsigned_abs h)) refl e (λ s q k. resolves s hs q k)

  -- a clause is the resolvent of the hints by ids
  pub resolvent_by_ids : (r hints : List ℤ) → IsResolvent (numbered clauses) r hints
      → IsResolvent held r (by_ids ids hints)
  resolvent_by_ids r hints v = (v.0, resolves (negs r) hints v.0 v.1, v.2)

  -- and strengthens unit propagation over the clauses that are held
  pub strengthens_by_ids : (r : List ℤ) → Strengthens (numbered clauses) r → Strengthens held r
  strengthens_by_ids r s = record {
    lit = s.lit;
    set = s.set;
    member = s.member;
    pairless = s.pairless;
    others = s.others;
    undecided = s.undecided;
    stable = λ id c e. let o = b.of id c e in s.stable (suc o.0) c o.2;
  }

-- each id is a number that is held in 63 bits
pub small_ids : (vars : ℕ) (formula learnt : List (List ℤ)) (s : State) → Tells vars formula learnt s → (place : ℕ)
    → id_at s.ids place < 2 ^ 63
small_ids vars formula learnt s t place = elim (cases_lt place (length s.ids)) [
  | inl h ↦
      let u = t.up_to place (id_at s.ids place) (slice_get-get_or s.ids place 0 h) in
      let m = t.most in
      omega (arith, u, m)
  | inr h ↦ (let e : id_at s.ids place ≡ 0 = get_or_past s.ids place 0 h in omega (arith, e))
]
