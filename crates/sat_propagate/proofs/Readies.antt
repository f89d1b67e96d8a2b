-- Clauses and lists of watches after a change.
use Rattle.std.proofs.Common.{◌≡◌, ℕ, ◌-◌, ◌<◌, true, cond, eqb, List, [], ◌∷◌, ◌++◌, length}
use Rattle.std.proofs.Common.{Option, Some, None, refl, ap, sym, subst, ◌∙◌, ◌⊎◌, inl, inr, arith}
use Rattle.std.specs.List.{swap, AllByRecursion}
use Rattle.std.proofs.lemmas.Bool.{cases_Bool}
use Rattle.std.proofs.lemmas.List.Sorted.{IsPermutation-swap, list_any-IsPermutation}
use Rattle.std.proofs.lemmas.List.Edits.{length-swap}
use Rattle.lrat_check.specs.Codes.{lit_of, lits_of}
use Rattle.lrat_check.specs.Sets.{IsLit, AreLits}
use Rattle.lrat_check.specs.Store.{Coded, with_code}
use Rattle.sat_trail.specs.Trail.{has_code}
use Rattle.sat_trail.proofs.Members.{or_left, or_right}
use Rattle.sat_propagate.specs.declared.watch.Watch.{Watch}
use Rattle.sat_propagate.specs.Watching.{Lists, with_watch, taken, joined, Fits, AreFit, Ready, KeepsFit, MovesTo}
use Rattle.sat_propagate.specs.Watching.{Alike}
use Rattle.sat_propagate.specs.Watching.{SameHeld}
use Rattle.sat_propagate.proofs.Quiets.{eq_is, eq_self, some_is}
use Rattle.sat_propagate.proofs.Looks.{has_index}
use Rattle.sat_propagate.proofs.Visits.{lit_at}

-- what holds of each of them holds of the last
pub all_last : (P : Watch → Type 0) (ws : List Watch) (v : Watch) → AllByRecursion P ws → P v
    → AllByRecursion P (ws ++ v ∷ [])
all_last P [] v a h = (h, a)
all_last P (w ∷ ws) v a h = (a.0, all_last P ws v a.1 h)

pub all_front : (P : Watch → Type 0) (ws : List Watch) (v : Watch) → AllByRecursion P (ws ++ v ∷ [])
    → AllByRecursion P ws × P v
all_front P [] v a = (tt, a.0)
all_front P (w ∷ ws) v a = let r = all_front P ws v a.1 in ((a.0, r.0), r.1)

pub all_map : (P Q : Watch → Type 0) (ws : List Watch) → ((w : Watch) → P w → Q w) → AllByRecursion P ws
    → AllByRecursion Q ws
all_map P Q [] f a = tt
all_map P Q (w ∷ ws) f a = (f w a.0, all_map P Q ws f a.1)

all_both : (P : Watch → Type 0) (ws vs : List Watch) → AllByRecursion P ws → AllByRecursion P vs
    → AllByRecursion P (ws ++ vs)
all_both P [] vs a b = b
all_both P (w ∷ ws) vs a b = (a.0, all_both P ws vs a.1 b)

all_lits : (c : List ℕ) → ((x : ℕ) → has_code c x ≡ true → IsLit (lit_of x)) → AreLits (lits_of c)
all_lits [] f = tt
all_lits (l ∷ ls) f = (
  f l (or_left (eqb l l) (has_code ls l) (eq_self l l refl)),
  all_lits ls (λ x h. f x (or_right (eqb x l) (has_code ls x) h)),
)

pub ready_push : (held : Coded) (bound : ℕ) (lists now : Lists) (code : ℕ) (v : Watch) → Ready held bound lists
    → Fits held bound v
    → now ≡ with_watch lists code v → Ready held bound now
ready_push held bound lists now code v r f e = record {
  lits = r.lits;
  long = r.long;
  fit = λ x. subst (λ z. AreFit held bound (z x)) (sym e) (elim (cases_Bool (eqb code x)) [
    | inl b ↦ subst (λ z. AreFit held bound (cond z (lists x ++ v ∷ []) (lists x))) (sym b)
        (all_last (Fits held bound) (lists x) v (r.fit x) f)
    | inr b ↦ subst (λ z. AreFit held bound (cond z (lists x ++ v ∷ []) (lists x))) (sym b) (r.fit x)
  ]);
}

pub ready_take : (held : Coded) (bound : ℕ) (lists now : Lists) (code : ℕ) → Ready held bound lists
    → now ≡ taken lists code → Ready held bound now
ready_take held bound lists now code r e = record {
  lits = r.lits;
  long = r.long;
  fit = λ x. subst (λ z. AreFit held bound (z x)) (sym e) (elim (cases_Bool (eqb code x)) [
    | inl b ↦ subst (λ z. AreFit held bound (cond z [] (lists x))) (sym b) tt
    | inr b ↦ subst (λ z. AreFit held bound (cond z [] (lists x))) (sym b) (r.fit x)
  ]);
}

pub ready_back : (held : Coded) (bound : ℕ) (lists : Lists) (code : ℕ) (rest : List Watch) → Ready held bound lists
    → AreFit held bound rest → Ready held bound (joined lists code rest)
ready_back held bound lists code rest r a = record {
  lits = r.lits;
  long = r.long;
  fit = λ x. elim (cases_Bool (eqb code x)) [
    | inl b ↦ subst (λ z. AreFit held bound (cond z (rest ++ lists x) (lists x))) (sym b)
        (all_both (Fits held bound) rest (lists x) a (r.fit x))
    | inr b ↦ subst (λ z. AreFit held bound (cond z (rest ++ lists x) (lists x))) (sym b) (r.fit x)
  ];
}

pub alike_self : (a : Option (List ℕ)) → Alike a a
alike_self None = tt
alike_self (Some c) = λ x. refl

pub same_self : (held : Coded) → SameHeld held held
same_self held id = alike_self (held id)

alike_on : (a b c : Option (List ℕ)) → Alike a b → Alike b c → Alike a c
alike_on None None None p q = tt
alike_on None None (Some z) p q = q
alike_on None (Some y) c p q = absurd p
alike_on (Some x) None c p q = absurd p
alike_on (Some x) (Some y) None p q = q
alike_on (Some x) (Some y) (Some z) p q = λ i. p i ∙ q i

pub same_on : (a b c : Coded) → SameHeld a b → SameHeld b c → SameHeld a c
same_on a b c p q id = alike_on (a id) (b id) (c id) (p id) (q id)

module _ (held now : Coded) (bound : ℕ) (lists : Lists) (id : ℕ) (c : List ℕ) (place k : ℕ) (r : Ready held bound lists)
    (f : held id ≡ Some c) (l : place < length c) (m : k < length c)
    (e : now ≡ with_code held id (swap c place k)) where
  same : (x : ℕ) → has_code c x ≡ has_code (swap c place k) x
  same x = list_any-IsPermutation (eqb x) c (swap c place k) (IsPermutation-swap c (swap c place k) place k l m refl)

  in_now : (i : ℕ) (d : List ℕ) → now i ≡ Some d → ((id ≡ i) × (swap c place k ≡ d)) ⊎ (held i ≡ Some d)
  in_now i d h = let g : with_code held id (swap c place k) i ≡ Some d = ap (λ z. z i) (sym e) ∙ h in
      elim (cases_Bool (eqb id i)) [
        | inl j ↦ inl (
          eq_is id i j,
          some_is (swap c place k) d (sym (ap (λ b. cond b (Some (swap c place k)) (held i)) j) ∙ g),
        )
        | inr j ↦ inr (sym (ap (λ b. cond b (Some (swap c place k)) (held i)) j) ∙ g)
      ]

  pub fits_move : KeepsFit held now bound
  fits_move w h = record {
    known = h.known;
    lit = h.lit;
    stands = λ d g. elim (in_now w.id d g) [
      | inl j ↦ ap (λ z. has_code z w.blocker) (sym j.1) ∙ sym (same w.blocker) ∙ h.stands c (ap held (sym j.0) ∙ f)
      | inr j ↦ h.stands d j
    ];
  }

  ready_move : Ready now bound lists
  ready_move = record {
    lits = λ i d h. elim (in_now i d h) [
      | inl j ↦ subst (λ z. AreLits (lits_of z)) j.1
          (all_lits (swap c place k) (λ x g. lit_at c x (r.lits id c f) (same x ∙ g)))
      | inr j ↦ r.lits i d j
    ];
    long = λ i d h. elim (in_now i d h) [
      | inl j ↦ omega (arith, r.long id c f, length-swap c place k, ap length j.1)
      | inr j ↦ r.long i d j
    ];
    fit = λ x. all_map (Fits held bound) (Fits now bound) (lists x) fits_move (r.fit x);
  }

  -- each id holds the same literals
  pub same_moved : SameHeld held now
  same_moved i = subst (λ z. Alike (held i) (z i)) (sym e) (elim (cases_Bool (eqb id i)) [
    | inl j ↦ subst (λ b. Alike (held i) (cond b (Some (swap c place k)) (held i))) (sym j)
        (subst (λ z. Alike z (Some (swap c place k))) (sym (ap held (sym (eq_is id i j)) ∙ f)) same)
    | inr j ↦ subst (λ b. Alike (held i) (cond b (Some (swap c place k)) (held i))) (sym j) (alike_self (held i))
  ])

  pub ready_moved : (w v : Watch) (code next other : ℕ) (set : List ℕ) (lists_now : Lists) → w.id ≡ id
      → MovesTo set c code place k next other → v ≡ record { id = w.id; blocker = other }
      → w.id < bound → lists_now ≡ with_watch lists next v → Ready now bound lists_now
  ready_moved w v code next other set lists_now i t g b j =
      let n : 1 - place < length c = (let a = t.low in let m = r.long id c f in omega (arith, a, m)) in
      let h : has_code c other ≡ true = ap (has_code c) t.other_is ∙ has_index c (1 - place) n in
      let fit : Fits held bound v = subst (Fits held bound) (sym g) (record {
        known = b;
        lit = lit_at c other (r.lits id c f) h;
        stands = λ d q. subst (λ z. has_code z other ≡ true) (some_is c d (sym f ∙ ap held (sym i) ∙ q)) h;
      }) in
      ready_push now bound lists lists_now next v ready_move (fits_move v fit) j

-- a watch whose blocker is a literal of its clause
pub fits_new : (held : Coded) (bound : ℕ) (lists : Lists) (w v : Watch) (c : List ℕ) (x : ℕ) → Ready held bound lists
    → w.id < bound → held w.id ≡ Some c → v ≡ record { id = w.id; blocker = x } → has_code c x ≡ true
    → Fits held bound v
fits_new held bound lists w v c x r b f e h = subst (Fits held bound) (sym e) (record {
  known = b;
  lit = lit_at c x (r.lits w.id c f) h;
  stands = λ d g. subst (λ z. has_code z x ≡ true) (some_is c d (sym f ∙ g)) h;
})
