-- One clause more is taken up: it is held, or short.
use Rattle.std.proofs.Common.{◌≡◌, ℕ, ◌+◌, ◌<◌, ◌≤◌, Bool, true, false, cond, eqb, List, []}
use Rattle.std.proofs.Common.{◌∷◌, ◌++◌, ℤ, length}
use Rattle.std.proofs.Common.{Option, Some, None, refl, ap, sym, subst, ◌∙◌, inl, inr, arith, length-append}
use Rattle.std.specs.Prelude.{slice_get}
use Rattle.std.proofs.lemmas.Bool.{cases_Bool, cases_eq}
use Rattle.std.proofs.lemmas.List.{get_or_append_left, get_or_push}
use Rattle.lrat_check.specs.Codes.{codes_of}
use Rattle.lrat_check.specs.Store.{coded, literals, held_of, next, with_code}
use Rattle.lrat_check.proofs.Codes.{lits_codes}
use Rattle.sat_trail.specs.Trail.{Entries, lits}
use Rattle.sat_propagate.specs.Watches.{State, Keeps, SameLits, OneAlone}
use Rattle.sat_propagate.proofs.Quiets.{eq_is, eq_self}
use Rattle.sat_propagate.specs.Propagation.{Taken, Holds, IsShort, IsTrueAt, place_at}
use Rattle.sat_propagate.proofs.ByPlace.{some_is, same_clause}

literals_cond : (b : Bool) (c : List ℤ) (rest : Option (List ℕ)) → b ≡ true
    → literals (cond b (Some (codes_of c)) rest) ≡ Some c
literals_cond b c rest e = ap (λ z. literals (cond z (Some (codes_of c)) rest)) e ∙ ap Some (lits_codes c)

module _ (cs : List (List ℤ)) (t : Entries) (p : Taken) (h : Holds cs t p) (c : List ℤ)
    (g : slice_get cs p.many ≡ Some c) (few : p.many < length cs) (w : State) (k : Keeps w t)
    (above : next w.store ≤ p.many + 1 + 1) where
  short_more : (index : ℕ) → index < length p.short → IsShort cs (p.many + 1) (place_at p.short index)
  short_more index l = let s = h.short index l in (s.0, (let b = s.1 in omega (arith, b)), s.2, s.3)

  module _ (clause : List ℤ) (same : SameLits c clause)
      (e : coded w.store ≡ with_code (coded p.watches.store) (p.many + 1) (codes_of clause)) where
    here : held_of w.store (p.many + 1) ≡ Some clause
    here = ap (λ z. literals (z (p.many + 1))) e
        ∙ literals_cond (eqb (p.many + 1) (p.many + 1)) clause (coded p.watches.store (p.many + 1))
        (eq_self (p.many + 1) (p.many + 1) refl)

    there : (id : ℕ) → eqb (p.many + 1) id ≡ false → held_of w.store id ≡ held_of p.watches.store id
    there id n = ap (λ z. literals (z id)) e
        ∙ ap (λ z. literals (cond z (Some (codes_of clause)) (coded p.watches.store id))) n

    apart : (place : ℕ) → place < p.many → eqb (p.many + 1) (place + 1) ≡ false
    apart place l = elim (cases_Bool (eqb (p.many + 1) (place + 1))) [
      | inl q ↦ absurd (let r = eq_is (p.many + 1) (place + 1) q in omega (arith, r, l))
      | inr q ↦ q
    ]

    -- the clause is held, its literals in some order
    pub taken_on : Holds cs t (record { watches = w; many = p.many + 1; short = p.short; looked = p.looked })
    taken_on = record {
      keeps = k;
      above = above;
      few = omega (arith, few);
      known = λ id d m. elim (cases_Bool (eqb (p.many + 1) id)) [
        | inl q ↦
            let at : p.many + 1 ≡ id = eq_is (p.many + 1) id q in
            let is : clause ≡ d = some_is clause d (sym here ∙ ap (held_of w.store) at ∙ m) in
            (p.many, c, sym at, omega arith, g, subst (SameLits c) is same)
        | inr q ↦
            let o = h.known id d (sym (there id q) ∙ m) in
            (o.0, o.1, o.2, (let b = o.3 in omega (arith, b)), o.4, o.5)
      ];
      taken = λ place d l m. elim (cases_eq place p.many) [
        | inl q ↦
            let is : c ≡ d = same_clause cs p.many c d g (ap (slice_get cs) (sym q) ∙ m) in
            inl (clause, ap (λ z. held_of w.store (z + 1)) q ∙ here, subst (λ z. SameLits z clause) is same)
        | inr q ↦
            let b : place < p.many = omega (arith, l, q) in
            elim (h.taken place d b m) [
              | inl o ↦ inl (o.0, there (place + 1) (apart place b) ∙ o.1, o.2)
              | inr o ↦ inr o
            ]
      ];
      short = short_more;
      looked = h.looked;
      true_there = h.true_there;
    }

  module _ (alone : OneAlone c) (e : coded w.store ≡ coded p.watches.store) where
    longer : length (p.short ++ p.many ∷ []) ≡ length p.short + 1
    longer = length-append p.short (p.many ∷ [])

    before : (index : ℕ) → index < length p.short → place_at (p.short ++ p.many ∷ []) index ≡ place_at p.short index
    before index l = get_or_append_left p.short (p.many ∷ []) 0 index l

    last : (index : ℕ) → length p.short ≡ index → place_at (p.short ++ p.many ∷ []) index ≡ p.many
    last index q = get_or_push p.short p.many 0 index q

    same_held : (id : ℕ) → held_of w.store id ≡ held_of p.watches.store id
    same_held id = ap (λ z. literals (z id)) e

    -- the clause has no two different literals
    pub short_on : Holds cs t
        (record { watches = w; many = p.many + 1; short = p.short ++ p.many ∷ []; looked = p.looked })
    short_on = record {
      keeps = k;
      above = above;
      few = omega (arith, few);
      known = λ id d m.
          let o = h.known id d (sym (same_held id) ∙ m) in
          (o.0, o.1, o.2, (let b = o.3 in omega (arith, b)), o.4, o.5);
      taken = λ place d l m. elim (cases_eq place p.many) [
        | inl q ↦ inr (length p.short, omega (arith, longer), last (length p.short) refl ∙ sym q)
        | inr q ↦ elim (h.taken place d (omega (arith, l, q)) m) [
          | inl o ↦ inl (o.0, same_held (place + 1) ∙ o.1, o.2)
          | inr o ↦ let b = o.1 in inr (o.0, omega (arith, longer, b), before o.0 o.1 ∙ o.2)
        ]
      ];
      short = λ index l. elim (cases_eq (length p.short) index) [
        | inl q ↦ subst (IsShort cs (p.many + 1)) (sym (last index q)) (c, omega arith, g, alone)
        | inr q ↦
            let b : index < length p.short = omega (arith, l, q, longer) in
            subst (IsShort cs (p.many + 1)) (sym (before index b)) (short_more index b)
      ];
      looked = (let b = h.looked in omega (arith, b, longer));
      true_there = λ index l.
          let b = h.looked in
          subst (IsTrueAt cs (lits t)) (sym (before index (omega (arith, l, b)))) (h.true_there index l);
    }

-- nothing is taken up
pub starts : (cs : List (List ℤ)) (p : Taken) → Keeps p.watches [] → ((id : ℕ) → coded p.watches.store id ≡ None)
    → next p.watches.store ≡ 0 → p.many ≡ 0 → p.short ≡ [] → p.looked ≡ 0 → Holds cs [] p
starts cs p k n a m s l = record {
  keeps = k;
  above = omega (arith, a);
  few = omega (arith, m);
  known = λ id d e. absurd (none (ap literals (sym (n id)) ∙ e));
  taken = λ place d b e. absurd (omega (arith, b, m));
  short = λ index b. absurd (let e = ap length s in omega (arith, b, e));
  looked = omega (arith, l);
  true_there = λ index b. absurd (omega (arith, b, l));
} where
  none : {d : List ℤ} → literals None ≡ Some d → ⊥
  none e = cc
