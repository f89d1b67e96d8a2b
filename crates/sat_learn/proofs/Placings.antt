-- A set of literals, and the place of each, after a change.
use Rattle.std.proofs.Common.{◌≡◌, ℕ, zero, suc, ◌+◌, ◌-◌, ◌<◌, ◌≤◌, Bool, true, false, not, cond, eqb, ◌&&◌, ◌||◌}
use Rattle.std.proofs.Common.{List, [], ◌∷◌, ◌++◌, ℤ, pos, length, take, refl, ap, sym, subst, ◌∙◌, ◌⊎◌, inl, inr}
use Rattle.std.proofs.Common.{w64, to_z, of_z, arith}
use Rattle.std.specs.Ordering.{int_eq}
use Rattle.std.proofs.lemmas.Bool.{false≢true, cases_Bool, false_from_ne_true}
use Rattle.std.proofs.lemmas.List.{length_push, get_or_append_left}
use Rattle.std.proofs.Math.Seq.{get_or-append_seam}
use Rattle.lrat_check.specs.Sets.{has, IsLit, AreLits}
use Rattle.sat_trail.specs.Trail.{place_of}
use Rattle.sat_trail.proofs.Codes.{lit_kept}
use Rattle.sat_trail.proofs.Members.{same_is, same_self, or_cases, or_right, has_head, has_tail, has_append}
use Rattle.sat_propagate.specs.Watches.{lit_at}
use Rattle.sat_propagate.proofs.Orders.{index_of, lit_from, lits_from}
use Rattle.sat_learn.specs.Placed.{ArePlaced}

-- whether a number is that of a place
abbrev pub placed : ℕ → Bool
placed zero = false
placed (suc n) = true

pub placed_some : (n p : ℕ) → n ≡ p + 1 → placed n ≡ true
placed_some zero p e = absurd (omega (arith, e))
placed_some (suc n) p e = refl

eq_is : (a b : ℕ) → eqb a b ≡ true → a ≡ b
eq_is a b e = grind (arith, e)

eq_self : (a b : ℕ) → a ≡ b → eqb a b ≡ true
eq_self a b e = grind (arith, e)

eq_not : (a b : ℕ) → (a ≡ b → ⊥) → eqb a b ≡ false
eq_not a b n = false_from_ne_true (eqb a b) (λ h. n (eq_is a b h))

-- the same as a test of the code
pub placed_is : (n : ℕ) → not (eqb n 0) ≡ placed n
placed_is zero = refl
placed_is (suc n) = ap not (eq_not (suc n) 0 (λ e. omega (arith, e)))

has_at : (c : List ℤ) (k : ℕ) → k < length c → has c (lit_at c k) ≡ true
has_at [] k l = absurd (omega (arith, l))
has_at (x ∷ c) zero l = has_head x c
has_at (x ∷ c) (suc k) l = has_tail (lit_at c k) x c (has_at c k (omega (arith, l)))

-- a literal of the code as it is read from a list
pub kept_here : (c : List ℤ) (k : ℕ) → AreLits c → k < length c → to_z w64 (of_z w64 (lit_at c k)) ≡ lit_at c k
kept_here c k a l = lit_kept (lit_at c k) (lit_from c (lit_at c k) a (has_at c k l))

last_or : (k n : ℕ) → k < n + 1 → (k < n) ⊎ (k ≡ n)
last_or k zero l = inr (omega (arith, l))
last_or zero (suc n) l = inl (omega arith)
last_or (suc k) (suc n) l =
    elim (last_or k n (omega (arith, l))) [ inl h ↦ inl (omega (arith, h)) | inr h ↦ inr (ap suc h) ]

placed_by : (set : List ℤ) (places : List ℕ) → ArePlaced set places → (x : ℤ) (n : ℕ) → place_of places x ≡ n
    → has set x ≡ placed n
placed_by set places a x zero e = false_from_ne_true (has set x) (λ h.
    let r = index_of set x h in
    let q : place_of places x ≡ r.0 + 1 = ap (place_of places) (sym r.2) ∙ a.at r.0 r.1 in omega (arith, e, q))
placed_by set places a x (suc n) e =
    let r = a.of x n (omega (arith, e)) in ap (has set) (sym r.1) ∙ has_at set n r.0

-- a literal is in the set where it has a place
pub has_placed : (set : List ℤ) (places : List ℕ) → ArePlaced set places → (x : ℤ)
    → has set x ≡ placed (place_of places x)
has_placed set places a x = placed_by set places a x (place_of places x) refl

-- where it is there, to add it changes nothing
pub had : (set : List ℤ) (x y : ℤ) → has set x ≡ true → has set y ≡ (has set y || int_eq y x)
had set x y h = elim (cases_Bool (int_eq y x)) [
  | inl e ↦
      let k : has set y ≡ true = ap (has set) (same_is y x e) ∙ h in k ∙ sym (ap (λ b. b || int_eq y x) k)
  | inr e ↦ or_last (has set y) ∙ ap (λ b. has set y || b) (sym e)
] where
  or_last : (b : Bool) → b ≡ (b || false)
  or_last true = refl
  or_last false = refl

-- and where it has no place, to remove it
pub hadnt : (set : List ℤ) (places : List ℕ) → ArePlaced set places → (x : ℤ) → place_of places x ≡ 0 → (y : ℤ)
    → has set y ≡ (not (int_eq x y) && has set y)
hadnt set places a x e y = elim (cases_Bool (int_eq x y)) [
  | inl s ↦
      let k : has set y ≡ false = ap (has set) (sym (same_is x y s)) ∙ has_placed set places a x ∙ ap placed e in
      k ∙ sym (ap (λ b. not b && has set y) s)
  | inr s ↦ sym (ap (λ b. not b && has set y) s)
]

-- the same places are those of the same set
pub same_places : (set : List ℤ) (places now : List ℕ) → ArePlaced set places
    → ((l : ℤ) → place_of now l ≡ place_of places l) → ArePlaced set now
same_places set places now a put = record {
  all_lits = a.all_lits;
  at = λ k l. put (lit_at set k) ∙ a.at k l;
  of = λ l k e. a.of l k (sym (put l) ∙ e);
}

-- the place of a literal alone changes
module _ (places now : List ℕ) (x : ℤ) (n : ℕ)
    (put : (l : ℤ) → place_of now l ≡ cond (int_eq x l) n (place_of places l)) where
  put_at : (l : ℤ) → int_eq x l ≡ true → place_of now l ≡ n
  put_at l e = put l ∙ ap (λ b. cond b n (place_of places l)) e

  put_other : (l : ℤ) → int_eq x l ≡ false → place_of now l ≡ place_of places l
  put_other l e = put l ∙ ap (λ b. cond b n (place_of places l)) e

module _ (set : List ℤ) (places : List ℕ) (a : ArePlaced set places) where
  -- a literal that wasn't there comes behind the others
  module _ (x : ℤ) (now : List ℕ) (i : IsLit x) (fresh : has set x ≡ false)
      (put : (l : ℤ) → place_of now l ≡ cond (int_eq x l) (length set + 1) (place_of places l)) where
    unlike : (k : ℕ) → k < length set → int_eq x (lit_at set k) ≡ false
    unlike k l = false_from_ne_true (int_eq x (lit_at set k))
        (λ e. false≢true (sym fresh ∙ ap (has set) (same_is x (lit_at set k) e) ∙ has_at set k l))

    lit_in : (y : ℤ) → has (set ++ x ∷ []) y ≡ true → IsLit y
    lit_in y h = elim (or_cases (has set y) (has (x ∷ []) y) (sym (has_append set (x ∷ []) y) ∙ h)) [
      | inl k ↦ lit_from set y a.all_lits k
      | inr k ↦ elim (or_cases (int_eq y x) false k) [
        | inl e ↦ subst IsLit (sym (same_is y x e)) i
        | inr e ↦ absurd (false≢true e)
      ]
    ]

    place_in : (k : ℕ) → k < length (set ++ x ∷ []) → place_of now (lit_at (set ++ x ∷ []) k) ≡ k + 1
    place_in k l = elim (last_or k (length set) (omega (arith, l, length_push set x))) [
      | inl m ↦ ap (place_of now) (get_or_append_left set (x ∷ []) (pos 0) k m)
          ∙ put_other places now x (length set + 1) put (lit_at set k) (unlike k m) ∙ a.at k m
      | inr m ↦ ap (place_of now) (ap (lit_at (set ++ x ∷ [])) m ∙ get_or-append_seam set x [] (pos 0))
          ∙ put_at places now x (length set + 1) put x (same_self x x refl) ∙ ap (λ z. z + 1) (sym m)
    ]

    lit_there : (y : ℤ) (k : ℕ) → place_of now y ≡ k + 1
        → (k < length (set ++ x ∷ [])) × (lit_at (set ++ x ∷ []) k ≡ y)
    lit_there y k e = elim (cases_Bool (int_eq x y)) [
      | inl s ↦
          let p = put_at places now x (length set + 1) put y s in
          let q : k ≡ length set = omega (arith, e, p) in (
            omega (arith, q, length_push set x),
            ap (lit_at (set ++ x ∷ [])) q ∙ get_or-append_seam set x [] (pos 0) ∙ same_is x y s,
          )
      | inr s ↦
          let r = a.of y k (sym (put_other places now x (length set + 1) put y s) ∙ e) in (
            omega (arith, r.0, length_push set x),
            get_or_append_left set (x ∷ []) (pos 0) k r.0 ∙ r.1,
          )
    ]

    pub inserted : ArePlaced (set ++ x ∷ []) now
    inserted = record { all_lits = lits_from (set ++ x ∷ []) lit_in; at = place_in; of = lit_there }

  -- a literal is removed, and the last one, m, takes its place
  module _ (lit m : ℤ) (left : List ℤ) (now : List ℕ) (p : ℕ) (there : place_of places lit ≡ p + 1)
      (short : length left + 1 ≡ length set) (last : m ≡ lit_at set (length left))
      (kept : (k : ℕ) → k < length left → lit_at left k ≡ cond (eqb k p) m (lit_at set k))
      (put : (l : ℤ) → place_of now l ≡ cond (int_eq lit l) 0 (cond (int_eq m l) (p + 1) (place_of places l))) where
    place_last : place_of places m ≡ length left + 1
    place_last = ap (place_of places) last ∙ a.at (length left) (omega (arith, short))

    differ : (x y : ℤ) (i j : ℕ) → place_of places x ≡ i → place_of places y ≡ j → (i ≡ j → ⊥) → int_eq x y ≡ false
    differ x y i j e f n =
        false_from_ne_true (int_eq x y) (λ h. n (sym e ∙ ap (place_of places) (same_is x y h) ∙ f))

    put_none : (l : ℤ) → int_eq lit l ≡ true → place_of now l ≡ 0
    put_none l e = put l ∙ ap (λ b. cond b 0 (cond (int_eq m l) (p + 1) (place_of places l))) e

    put_rest : (l : ℤ) → int_eq lit l ≡ false → place_of now l ≡ cond (int_eq m l) (p + 1) (place_of places l)
    put_rest l e = put l ∙ ap (λ b. cond b 0 (cond (int_eq m l) (p + 1) (place_of places l))) e

    put_moved : (l : ℤ) → int_eq lit l ≡ false → int_eq m l ≡ true → place_of now l ≡ p + 1
    put_moved l e f = put_rest l e ∙ ap (λ b. cond b (p + 1) (place_of places l)) f

    put_kept : (l : ℤ) → int_eq lit l ≡ false → int_eq m l ≡ false → place_of now l ≡ place_of places l
    put_kept l e f = put_rest l e ∙ ap (λ b. cond b (p + 1) (place_of places l)) f

    moved_at : p < length left → lit_at left p ≡ m
    moved_at l = kept p l ∙ ap (λ b. cond b m (lit_at set p)) (eq_self p p refl)

    kept_at : (k : ℕ) → k < length left → (k ≡ p → ⊥) → lit_at left k ≡ lit_at set k
    kept_at k l n = kept k l ∙ ap (λ b. cond b m (lit_at set k)) (eq_not k p n)

    place_left : (k : ℕ) → k < length left → place_of now (lit_at left k) ≡ k + 1
    place_left k l = elim (cases_Bool (eqb k p)) [
      | inl e ↦
          let q = eq_is k p e in
          let inside : p < length left = omega (arith, l, q) in
          ap (λ z. place_of now (lit_at left z)) q ∙ ap (place_of now) (moved_at inside)
          ∙ put_moved m (differ lit m (p + 1) (length left + 1) there place_last (λ z. omega (arith, z, inside)))
          (same_self m m refl) ∙ ap (λ z. z + 1) (sym q)
      | inr e ↦
          let n : k ≡ p → ⊥ = λ z. false≢true (sym e ∙ eq_self k p z) in
          let here = a.at k (omega (arith, l, short)) in
          ap (place_of now) (kept_at k l n)
          ∙ put_kept (lit_at set k)
          (differ lit (lit_at set k) (p + 1) (k + 1) there here (λ z. n (omega (arith, z))))
          (differ m (lit_at set k) (length left + 1) (k + 1) place_last here (λ z. omega (arith, z, l))) ∙ here
    ]

    -- where the literal was the last one itself, it is m
    not_last : int_eq lit m ≡ false → p < length left
    not_last e =
        let r = a.of lit p there in
        elim (last_or p (length left) (omega (arith, r.0, short))) [
          | inl h ↦ h
          | inr h ↦ absurd (false≢true (sym e ∙ same_self lit m (sym r.1 ∙ ap (lit_at set) h ∙ sym last)))
        ]

    lit_left : (y : ℤ) (k : ℕ) → place_of now y ≡ k + 1 → (k < length left) × (lit_at left k ≡ y)
    lit_left y k e = elim (cases_Bool (int_eq lit y)) [
      | inl s ↦ absurd (let z = put_none y s in omega (arith, e, z))
      | inr s ↦ elim (cases_Bool (int_eq m y)) [
        | inl t ↦
            let z = put_moved y s t in
            let q : k ≡ p = omega (arith, e, z) in
            let inside = not_last (ap (int_eq lit) (same_is m y t) ∙ s) in
            (omega (arith, q, inside), ap (lit_at left) q ∙ moved_at inside ∙ same_is m y t)
        | inr t ↦
            let r = a.of y k (sym (put_kept y s t) ∙ e) in
            let old = a.of lit p there in
            let inside : k < length left = elim (last_or k (length left) (omega (arith, r.0, short))) [
              | inl h ↦ h
              | inr h ↦ absurd (false≢true (sym t ∙ same_self m y (last ∙ ap (lit_at set) (sym h) ∙ r.1)))
            ] in
            let n : k ≡ p → ⊥ =
            λ h. false≢true (sym s ∙ same_self lit y (sym old.1 ∙ ap (lit_at set) (sym h) ∙ r.1)) in
            (inside, kept_at k inside n ∙ r.1)
      ]
    ]

    had_before : (x : ℤ) → int_eq lit x ≡ false → placed (place_of now x) ≡ has set x
    had_before x e = elim (cases_Bool (int_eq m x)) [
      | inl f ↦ placed_some (place_of now x) p (put_moved x e f)
          ∙ sym (ap (has set) (sym (same_is m x f)) ∙ has_placed set places a m
          ∙ placed_some (place_of places m) (length left) place_last)
      | inr f ↦ ap placed (put_kept x e f) ∙ sym (has_placed set places a x)
    ]

    had_after : (x : ℤ) → has left x ≡ true → has set x ≡ true
    had_after x h =
        let r = index_of left x h in
        let q : place_of now x ≡ r.0 + 1 = ap (place_of now) (sym r.2) ∙ place_left r.0 r.1 in
        elim (cases_Bool (int_eq lit x)) [
          | inl e ↦ absurd (let z = put_none x e in omega (arith, z, q))
          | inr e ↦ sym (had_before x e) ∙ placed_some (place_of now x) r.0 q
        ]

    pub removed : ArePlaced left now
    removed = record {
      all_lits = lits_from left (λ x h. lit_from set x a.all_lits (had_after x h));
      at = place_left;
      of = lit_left;
    }

    pub removed_has : (x : ℤ) → has left x ≡ (not (int_eq lit x) && has set x)
    removed_has x = elim (cases_Bool (int_eq lit x)) [
      | inl e ↦ has_placed left now removed x ∙ ap placed (put_none x e)
          ∙ sym (ap (λ b. not b && has set x) e)
      | inr e ↦ has_placed left now removed x ∙ had_before x e ∙ sym (ap (λ b. not b && has set x) e)
    ]

take_front : (set : List ℤ) (x : ℤ) → take (length set) (set ++ x ∷ []) ≡ set
take_front [] x = refl
take_front (y ∷ set) x = ap (λ z. y ∷ z) (take_front set x)

-- what was pushed is popped again
pub popped_list : (set whole left : List ℤ) (x : ℤ) (n : ℕ) → whole ≡ set ++ x ∷ [] → n ≡ length set
    → left ≡ take n whole → left ≡ set
popped_list set whole left x n w e r =
    r ∙ ap (take n) w ∙ ap (λ m. take m (set ++ x ∷ [])) e ∙ take_front set x

pub last_is_lit : (set left : List ℤ) (x : ℤ) → set ≡ left ++ x ∷ [] → AreLits set → IsLit x
last_is_lit set left x e a = lit_from set x a (ap (λ z. has z x) e ∙ has_append left (x ∷ []) x
    ∙ or_right (has left x) (has (x ∷ []) x) (has_head x []))

twice : (b : Bool) (n m : ℕ) → cond b 0 m ≡ cond b 0 (cond b n m)
twice true n m = refl
twice false n m = refl

-- the last literal is taken off
pub popped : (set left : List ℤ) (places now : List ℕ) (lit : ℤ) → set ≡ left ++ lit ∷ [] → ArePlaced set places
    → ((l : ℤ) → place_of now l ≡ cond (int_eq lit l) 0 (place_of places l)) → ArePlaced left now
popped set left places now lit is a put =
    let short : length left + 1 ≡ length set = sym (ap length is ∙ length_push left lit) in
    let last : lit ≡ lit_at set (length left) =
    sym (ap (λ z. lit_at z (length left)) is ∙ get_or-append_seam left lit [] (pos 0)) in
    let there : place_of places lit ≡ length left + 1 =
    ap (place_of places) last ∙ a.at (length left) (omega (arith, short)) in
    removed set places a lit lit left now (length left) there short last
    (λ k l. sym (ap (λ b. cond b lit (lit_at set k)) (eq_not k (length left) (λ z. omega (arith, z, l)))
    ∙ ap (λ z. lit_at z k) is ∙ get_or_append_left left (lit ∷ []) (pos 0) k l))
    (λ l. put l ∙ twice (int_eq lit l) (length left + 1) (place_of places l))

-- the last literal takes the place of one that is removed
module _ (set : List ℤ) (places : List ℕ) (a : ArePlaced set places) (lit : ℤ) (place : ℕ)
    (there : place ≡ place_of places lit) (some : place ≡ 0 → ⊥) where
  at_place : place_of places lit ≡ place - 1 + 1
  at_place = omega (arith, there, some)

  pub within : place - 1 < length set
  within = (a.of lit (place - 1) at_place).0

  module _ (left : List ℤ) (short : length left + 1 ≡ length set)
      (first : place - 1 + 1 < length set → lit_at left (place - 1) ≡ lit_at set (length set - 1))
      (others : (k : ℕ) → (k ≡ place - 1 → ⊥) → k + 1 < length set → lit_at left k ≡ lit_at set k) where
    first_is : place - 1 < length left → lit_at left (place - 1) ≡ (lit_at set (length left))
    first_is h =
        let q : length set - 1 ≡ length left = omega (arith, short) in
        first (omega (arith, h, short)) ∙ ap (lit_at set) q

    pub moved_placed : place ≤ length left → 0 < place_of places (lit_at left (place - 1))
    moved_placed h =
        let q : place_of places (lit_at left (place - 1)) ≡ length left + 1 =
        ap (place_of places) (first_is (omega (arith, h, some))) ∙ a.at (length left) (omega (arith, short)) in
        omega (arith, q)

    kept_all : (k : ℕ) → k < length left
        → lit_at left k ≡ cond (eqb k (place - 1)) (lit_at set (length left)) (lit_at set k)
    kept_all k l = elim (cases_Bool (eqb k (place - 1))) [
      | inl e ↦
          let q = eq_is k (place - 1) e in
          ap (lit_at left) q ∙ first_is (omega (arith, l, q))
          ∙ sym (ap (λ b. cond b (lit_at set (length left)) (lit_at set k)) e)
      | inr e ↦ others k (λ z. false≢true (sym e ∙ eq_self k (place - 1) z)) (omega (arith, l, short))
          ∙ sym (ap (λ b. cond b (lit_at set (length left)) (lit_at set k)) e)
    ]

    lit_here : (k : ℕ) → k < length left → IsLit (lit_at left k)
    lit_here k l = subst IsLit (sym (kept_all k l)) (pick (eqb k (place - 1))) where
      pick : (b : Bool) → IsLit (cond b (lit_at set (length left)) (lit_at set k))
      pick true = lit_from set (lit_at set (length left)) a.all_lits (has_at set (length left) (omega (arith, short)))
      pick false = lit_from set (lit_at set k) a.all_lits (has_at set k (omega (arith, l, short)))

    pub lits_kept : AreLits left
    lits_kept = lits_from left (λ x h. let r = index_of left x h in subst IsLit r.2 (lit_here r.0 r.1))

    module _ (settled now : List ℕ)
        (moved : place ≤ length left → (l : ℤ)
        → place_of settled l ≡ cond (int_eq (lit_at left (place - 1)) l) place (place_of places l))
        (same : length left < place → (l : ℤ) → place_of settled l ≡ place_of places l)
        (cleared : (l : ℤ) → place_of now l ≡ cond (int_eq lit l) 0 (place_of settled l)) where
      put_all : (l : ℤ)
          → place_of now l
          ≡ cond (int_eq lit l) 0 (cond (int_eq (lit_at set (length left)) l) (place - 1 + 1) (place_of places l))
      put_all l =
          let n : place ≡ place - 1 + 1 = omega (arith, some) in
          elim (last_or (place - 1) (length left) (omega (arith, within, short))) [
            | inl h ↦ cleared l ∙ ap (λ z. cond (int_eq lit l) 0 z) (moved (omega (arith, h, some)) l
                ∙ ap (λ z. cond (int_eq z l) place (place_of places l)) (first_is h)
                ∙ ap (λ m. cond (int_eq (lit_at set (length left)) l) m (place_of places l)) n)
            | inr h ↦
                let r = a.of lit (place - 1) at_place in
                let e : lit ≡ (lit_at set (length left)) = sym r.1 ∙ ap (lit_at set) h in
                cleared l ∙ ap (λ z. cond (int_eq lit l) 0 z) (same (omega (arith, h, some)) l)
                ∙ twice (int_eq lit l) (place - 1 + 1) (place_of places l)
                ∙ ap (λ z. cond (int_eq lit l) 0 (cond (int_eq z l) (place - 1 + 1) (place_of places l))) e
          ]

      pub taken_out : ArePlaced left now
      taken_out = removed set places a lit (lit_at set (length left)) left now (place - 1) at_place short refl kept_all
          put_all

      pub taken_has : (x : ℤ) → has left x ≡ (not (int_eq lit x) && has set x)
      taken_has = removed_has set places a lit (lit_at set (length left)) left now (place - 1) at_place short refl
          kept_all put_all
