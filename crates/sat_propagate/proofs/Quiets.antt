-- Watched places after a watch was dealt with.
use Rattle.std.proofs.Common.{◌≡◌, ℕ, zero, suc, ◌-◌, ◌<◌, Bool, true, false, cond, eqb, List, [], ◌∷◌, ◌++◌}
use Rattle.std.proofs.Common.{length, get_or, ◌||◌, Some, refl, ap, sym, subst, ◌∙◌, ◌⊎◌, inl, inr, arith}
use Rattle.std.specs.List.{list_any, swap}
use Rattle.std.proofs.lemmas.Bool.{false≢true, cases_Bool}
use Rattle.std.proofs.lemmas.List.Folds.{list_any-append}
use Rattle.std.proofs.lemmas.List.Sorted.{IsPermutation-swap, list_any-IsPermutation}
use Rattle.std.proofs.lemmas.List.Edits.{swapped_from_swap, length-swap}
use Rattle.lrat_check.specs.Codes.{flip}
use Rattle.lrat_check.specs.Store.{Coded, with_code}
use Rattle.sat_trail.specs.Trail.{has_code}
use Rattle.sat_trail.proofs.Members.{or_left, or_right, or_cases}
use Rattle.sat_propagate.specs.declared.watch.Watch.{Watch}
use Rattle.sat_propagate.specs.Watching.{
  is_false_code,
  Among,
  satisfied,
  Lists,
  is_listed,
  with_watch,
  joined,
  Quiet,
  Watched,
  Calm,
}

pub eq_is : (a b : ℕ) → eqb a b ≡ true → a ≡ b
eq_is a b e = grind (arith, e)

pub eq_self : (a b : ℕ) → a ≡ b → eqb a b ≡ true
eq_self a b e = grind (arith, e)

pub some_is : (a b : List ℕ) → Some a ≡ Some b → a ≡ b
some_is a b e = cc

-- what passes a test passes a weaker one
any_more : (p q : ℕ → Bool) (c : List ℕ) → ((x : ℕ) → p x ≡ true → q x ≡ true) → list_any p c ≡ true
    → list_any q c ≡ true
any_more p q [] f h = h
any_more p q (x ∷ c) f h = elim (or_cases (p x) (list_any p c) h) [
  | inl e ↦ or_left (q x) (list_any q c) (f x e)
  | inr e ↦ or_right (q x) (list_any q c) (any_more p q c f e)
]

-- more is true, and nothing more was gone through
pub satisfied_more : (set more c : List ℕ) → Among set more → satisfied set c ≡ true → satisfied more c ≡ true
satisfied_more set more c w h = any_more (has_code set) (has_code more) c w h

is_listed_more : (ws : List Watch) (v : Watch) (id : ℕ) → is_listed ws id ≡ true → is_listed (ws ++ v ∷ []) id ≡ true
is_listed_more ws v id h =
    list_any-append (λ w. eqb w.id id) ws (v ∷ []) ∙ or_left (is_listed ws id) (is_listed (v ∷ []) id) h

is_listed_last : (ws : List Watch) (v : Watch) (id : ℕ) → v.id ≡ id → is_listed (ws ++ v ∷ []) id ≡ true
is_listed_last ws v id e =
    list_any-append (λ w. eqb w.id id) ws (v ∷ [])
    ∙ or_right (is_listed ws id) (is_listed (v ∷ []) id) (or_left (eqb v.id id) false (eq_self v.id id e))

module _ (lists : Lists) (x : ℕ) (v : Watch) where
  stays_at : (b : Bool) (y id : ℕ) → eqb x y ≡ b → is_listed (lists y) id ≡ true
      → is_listed (with_watch lists x v y) id ≡ true
  stays_at true y id e h =
      ap (λ b. is_listed (cond b (lists y ++ v ∷ []) (lists y)) id) e ∙ is_listed_more (lists y) v id h
  stays_at false y id e h = ap (λ b. is_listed (cond b (lists y ++ v ∷ []) (lists y)) id) e ∙ h

  pub stays : (y id : ℕ) → is_listed (lists y) id ≡ true → is_listed (with_watch lists x v y) id ≡ true
  stays y id h = stays_at (eqb x y) y id refl h

  pub joins : (y id : ℕ) → x ≡ y → v.id ≡ id → is_listed (with_watch lists x v y) id ≡ true
  joins y id e h =
      ap (λ b. is_listed (cond b (lists y ++ v ∷ []) (lists y)) id) (eq_self x y e) ∙ is_listed_last (lists y) v id h

module _ (lists : Lists) (x : ℕ) (ws : List Watch) where
  behind_at : (b : Bool) (y id : ℕ) → eqb x y ≡ b → is_listed (lists y) id ≡ true
      → is_listed (joined lists x ws y) id ≡ true
  behind_at true y id e h =
      ap (λ b. is_listed (cond b (ws ++ lists y) (lists y)) id) e ∙ list_any-append (λ w. eqb w.id id) ws (lists y)
      ∙ or_right (is_listed ws id) (is_listed (lists y) id) h
  behind_at false y id e h = ap (λ b. is_listed (cond b (ws ++ lists y) (lists y)) id) e ∙ h

  front_at : (y id : ℕ) → x ≡ y → is_listed ws id ≡ true → is_listed (joined lists x ws y) id ≡ true
  front_at y id e h =
      ap (λ b. is_listed (cond b (ws ++ lists y) (lists y)) id) (eq_self x y e)
      ∙ list_any-append (λ w. eqb w.id id) ws (lists y) ∙ or_left (is_listed ws id) (is_listed (lists y) id) h

-- what is left of a list goes back into it, as its literal is no longer false
pub puts_back : (held : Coded) (lists : Lists) (done set : List ℕ) (code : ℕ) (rest : List Watch)
    → is_false_code done code ≡ false → Watched held lists done set code rest
    → Watched held (joined lists code rest) done set code []
puts_back held lists done set code rest f s = record {
  two = s.two;
  apart = s.apart;
  kept = λ id c place h l. inl (elim (s.kept id c place h l) [
    | inl q ↦ record {
      inside = behind_at lists code rest (eqb code (get_or c place 0)) (get_or c place 0) id refl q.inside;
      calm = q.calm;
    }
    | inr q ↦ record {
      inside = front_at lists code rest (get_or c place 0) id (sym q.0) q.1;
      calm = λ g. absurd (false≢true (sym f ∙ ap (is_false_code done) (sym q.0) ∙ g));
    }
  ]);
}

-- the last watch that is left is one of the same clause
pub renewed : (held : Coded) (lists : Lists) (done set : List ℕ) (code : ℕ) (w v : Watch) (left : List Watch)
    → v.id ≡ w.id → Watched held lists done set code (left ++ w ∷ [])
    → Watched held lists done set code (left ++ v ∷ [])
renewed held lists done set code w v left e s = record {
  two = s.two;
  apart = s.apart;
  kept = λ id c place h l. elim (s.kept id c place h l) [
    | inl q ↦ inl q
    | inr q ↦ inr (q.0, same id ∙ q.1)
  ];
} where
  same : (id : ℕ) → is_listed (left ++ v ∷ []) id ≡ is_listed (left ++ w ∷ []) id
  same id =
      list_any-append (λ u. eqb u.id id) left (v ∷ [])
      ∙ ap (λ n. is_listed left id || (eqb n id || false)) e ∙ sym (list_any-append (λ u. eqb u.id id) left (w ∷ []))

-- the watch that is taken off the end of a list comes first
pub turned : (held : Coded) (lists : Lists) (done set : List ℕ) (code : ℕ) (w : Watch) (rest all : List Watch)
    → all ≡ rest ++ w ∷ [] → Watched held lists done set code all → Watched held lists done set code (w ∷ rest)
turned held lists done set code w rest all e s = record {
  two = s.two;
  apart = s.apart;
  kept = λ id c place h l. elim (s.kept id c place h l) [
    | inl q ↦ inl q
    | inr p ↦ inr (p.0, turns id (sym (ap (λ z. is_listed z id) e) ∙ p.1))
  ];
} where
  turns : (id : ℕ) → is_listed (rest ++ w ∷ []) id ≡ true → is_listed (w ∷ rest) id ≡ true
  turns id h = elim (or_cases (is_listed rest id) (is_listed (w ∷ []) id)
      (sym (list_any-append (λ v. eqb v.id id) rest (w ∷ [])) ∙ h)) [
        | inl k ↦ or_right (eqb w.id id) (is_listed rest id) k
        | inr k ↦ elim (or_cases (eqb w.id id) false k) [
          | inl j ↦ or_left (eqb w.id id) (is_listed rest id) j
          | inr j ↦ absurd (false≢true j)
        ]
      ]

-- the watch is pushed onto the list that is gone through: its clause has a true literal, or the list's literal isn't
-- among those that were gone through
module _ (held : Coded) (lists : Lists) (done set : List ℕ) (code : ℕ) (w v : Watch) (rest : List Watch) where
  pub pushes : Watched held lists done set code (w ∷ rest) → v.id ≡ w.id
      → ((c : List ℕ) → held w.id ≡ Some c → is_false_code done code ≡ true → satisfied set c ≡ true)
      → Watched held (with_watch lists code v) done set code rest
  pushes s e t = record {
    two = s.two;
    apart = s.apart;
    kept = λ id c place h l. elim (s.kept id c place h l) [
      | inl q ↦ inl (record { inside = stays lists code v (get_or c place 0) id q.inside; calm = q.calm })
      | inr p ↦ elim (or_cases (eqb w.id id) (is_listed rest id) p.1) [
        | inl k ↦ inl (record {
          inside = joins lists code v (get_or c place 0) id (sym p.0) (e ∙ eq_is w.id id k);
          calm = λ f. t c (ap held (eq_is w.id id k) ∙ h) (ap (is_false_code done) (sym p.0) ∙ f);
        })
        | inr k ↦ inr (p.0, k)
      ]
    ];
  }

-- the watch is dropped: its clause isn't held or not watched there
module _ (held : Coded) (lists : Lists) (done set : List ℕ) (code : ℕ) (w : Watch) (rest : List Watch) where
  pub drops : Watched held lists done set code (w ∷ rest)
      → ((c : List ℕ) (place : ℕ) → held w.id ≡ Some c → place < 2 → get_or c place 0 ≡ code → ⊥)
      → Watched held lists done set code rest
  drops s t = record {
    two = s.two;
    apart = s.apart;
    kept = λ id c place h l. elim (s.kept id c place h l) [
      | inl q ↦ inl q
      | inr p ↦ elim (or_cases (eqb w.id id) (is_listed rest id) p.1) [
        | inl k ↦ absurd (t c place (ap held (eq_is w.id id k) ∙ h) l p.0)
        | inr k ↦ inr (p.0, k)
      ]
    ];
  }

pub record Moves (held : Coded) (done set : List ℕ) (code : ℕ) (w : Watch) (c : List ℕ) (place k : ℕ) : Type 0 where
  pub found : held w.id ≡ Some c
  pub low : place < 2
  pub here : get_or c place 0 ≡ code
  pub beyond : 1 < k
  pub within : k < length c
  pub unfalse : is_false_code set (get_or c k 0) ≡ false
  pub other : eqb (get_or c k 0) (get_or c (1 - place) 0) ≡ false
  pub part : Among done set

false_from : (b : Bool) → (b ≡ true → ⊥) → b ≡ false
false_from true h = absurd (h refl)
false_from false h = refl

places : (p q : ℕ) → p < 2 → q < 2 → (p ≡ q) ⊎ (q ≡ 1 - p)
places zero zero a b = inl refl
places zero (suc zero) a b = inr refl
places zero (suc (suc q)) a b = absurd (omega (arith, b))
places (suc zero) zero a b = inr refl
places (suc zero) (suc zero) a b = inl refl
places (suc zero) (suc (suc q)) a b = absurd (omega (arith, b))
places (suc (suc p)) q a b = absurd (omega (arith, a))

equal_at : (c : List ℕ) (p q : ℕ) → p < 2 → q ≡ 1 - p → get_or c p 0 ≡ get_or c q 0
    → eqb (get_or c 0 0) (get_or c 1 0) ≡ true
equal_at c zero q a z h = eq_self (get_or c 0 0) (get_or c 1 0) (h ∙ ap (λ i. get_or c i 0) z)
equal_at c (suc zero) q a z h = eq_self (get_or c 0 0) (get_or c 1 0) (sym (h ∙ ap (λ i. get_or c i 0) z))
equal_at c (suc (suc p)) q a z h = absurd (omega (arith, a))

-- the watch goes to another place of the clause
module _ (held : Coded) (lists : Lists) (done set : List ℕ) (code : ℕ) (w v : Watch) (rest : List Watch)
    (c : List ℕ) (place k : ℕ) where
  abbrev new : List ℕ
  new = swap c place k

  module _ (s : Watched held lists done set code (w ∷ rest)) (m : Moves held done set code w c place k)
      (e : v.id ≡ w.id) where
    long : place < length c
    long = omega (arith, m.low, s.two w.id c m.found)

    there : get_or new place 0 ≡ get_or c k 0
    there = (swapped_from_swap c new place k 0 long m.within refl).0

    others : (q : ℕ) → q < 2 → (q ≡ place → ⊥) → get_or new q 0 ≡ get_or c q 0
    others q l n = (swapped_from_swap c new place k 0 long m.within refl).2 q n
        (λ z. let b = m.beyond in omega (arith, z, l, b))

    pub same : (set : List ℕ) → satisfied set c ≡ satisfied set new
    same set = list_any-IsPermutation (has_code set) c new (IsPermutation-swap c new place k long m.within refl)

    now : Coded
    now = with_code held w.id new

    in_now : (id : ℕ) (d : List ℕ) → with_code held w.id new id ≡ Some d
        → ((w.id ≡ id) × (new ≡ d)) ⊎ (held id ≡ Some d)
    in_now id d h = elim (cases_Bool (eqb w.id id)) [
      | inl k ↦ inl (eq_is w.id id k, some_is new d (sym (ap (λ b. cond b (Some new) (held id)) k) ∙ h))
      | inr k ↦ inr (sym (ap (λ b. cond b (Some new) (held id)) k) ∙ h)
    ]

    here_now : (q : ℕ) → q ≡ place → Quiet (with_watch lists (get_or c k 0) v) done set w.id new (get_or new q 0)
    here_now q z = let t : get_or new q 0 ≡ get_or c k 0 = ap (λ p. get_or new p 0) z ∙ there in record {
      inside = joins lists (get_or c k 0) v (get_or new q 0) w.id (sym t) e;
      calm = λ f. absurd (false≢true (sym m.unfalse
          ∙ m.part (flip (get_or c k 0)) (ap (is_false_code done) (sym t) ∙ f)));
    }

    is_other : (q : ℕ) → q < 2 → q ≡ 1 - place → get_or new q 0 ≡ get_or c q 0
    is_other q l z = others q l (λ y. let a = m.low in omega (arith, y, z, a))

    -- two watched places have different literals
    both_there : (q : ℕ) → q < 2 → q ≡ 1 - place → get_or c q 0 ≡ code → ⊥
    both_there q l z r = elim (places place q m.low l) [
      | inl y ↦ let a = m.low in omega (arith, y, z, a)
      | inr y ↦ false≢true (sym (s.apart w.id c m.found) ∙ equal_at c place q m.low z (m.here ∙ sym r))
    ]

    at_other : (q : ℕ) → q < 2 → q ≡ 1 - place
        → Quiet (with_watch lists (get_or c k 0) v) done set w.id new (get_or new q 0)
    at_other q l z = elim (s.kept w.id c q m.found l) [
      | inl r ↦ record {
        inside = stays lists (get_or c k 0) v (get_or new q 0) w.id
            (ap (λ x. is_listed (lists x) w.id) (is_other q l z) ∙ r.inside);
        calm = λ f. sym (same set) ∙ r.calm (ap (is_false_code done) (sym (is_other q l z)) ∙ f);
      }
      | inr r ↦ absurd (both_there q l z r.0)
    ]

    kept_now : (id : ℕ) (d : List ℕ) (q : ℕ) → with_code held w.id new id ≡ Some d → q < 2
        → Quiet (with_watch lists (get_or c k 0) v) done set id d (get_or d q 0)
        ⊎ ((get_or d q 0 ≡ code) × (is_listed rest id ≡ true))
    kept_now id d q h l = elim (cases_Bool (eqb w.id id)) [
      | inl j ↦
          let i = eq_is w.id id j in
          let y : new ≡ d = some_is new d (sym (ap (λ b. cond b (Some new) (held id)) j) ∙ h) in
          let P : ℕ → Type 0 = λ z. Quiet (with_watch lists (get_or c k 0) v) done set z d (get_or d q 0) in
          let Q : List ℕ → Type 0 = λ z. Quiet (with_watch lists (get_or c k 0) v) done set w.id z (get_or z q 0) in
          inl (subst P i (subst Q y (elim (places place q m.low l) [
            | inl z ↦ here_now q (sym z)
            | inr z ↦ at_other q l z
          ])))
      | inr j ↦ elim (s.kept id d q (sym (ap (λ b. cond b (Some new) (held id)) j) ∙ h) l) [
        | inl r ↦ inl (record { inside = stays lists (get_or c k 0) v (get_or d q 0) id r.inside; calm = r.calm })
        | inr r ↦ elim (or_cases (eqb w.id id) (is_listed rest id) r.1) [
          | inl z ↦ absurd (false≢true (sym j ∙ z))
          | inr z ↦ inr (r.0, z)
        ]
      ]
    ]

    long_now : length new ≡ length c
    long_now = length-swap c place k

    apart_at : (p : ℕ) → p ≡ place → eqb (get_or new 0 0) (get_or new 1 0) ≡ false
    apart_at zero z = ap (λ x. eqb x (get_or new 1 0)) (ap (λ p. get_or new p 0) z ∙ there)
        ∙ ap (eqb (get_or c k 0)) (is_other 1 (omega arith) (omega (arith, z)))
        ∙ ap (λ p. eqb (get_or c k 0) (get_or c p 0)) (omega (arith, z)) ∙ m.other
    apart_at (suc p) z = false_from (eqb (get_or new 0 0) (get_or new 1 0)) (λ h.
        let a = m.low in
        let t : p ≡ 0 = omega (arith, z, a) in
        let first : get_or new 0 0 ≡ get_or c 0 0 = is_other 0 (omega arith) (omega (arith, z, a)) in
        let second : get_or new 1 0 ≡ get_or c k 0 = ap (λ i. get_or new i 0) (omega (arith, z, t)) ∙ there in
        false≢true (sym m.other ∙ eq_self (get_or c k 0) (get_or c (1 - place) 0) (sym second
        ∙ sym (eq_is (get_or new 0 0) (get_or new 1 0) h) ∙ first ∙ ap (λ i. get_or c i 0) (omega (arith, z, a)))))

    pub moves : Watched (with_code held w.id new) (with_watch lists (get_or c k 0) v) done set code rest
    moves = record {
      two = λ id d h. elim (in_now id d h) [
        | inl r ↦ omega (arith, s.two w.id c m.found, long_now, ap length r.1)
        | inr r ↦ s.two id d r
      ];
      apart = λ id d h. elim (in_now id d h) [
        | inl r ↦ ap (λ z. eqb (get_or z 0 0) (get_or z 1 0)) (sym r.1) ∙ apart_at place refl
        | inr r ↦ s.apart id d r
      ];
      kept = kept_now;
    }

    -- what is older than a decision stays calm
    pub calm_kept : (older : List ℕ) → Among older set → Calm held older → Calm (with_code held w.id new) older
    calm_kept older u z id d q h l f = elim (in_now id d h) [
      | inr r ↦ z id d q r l f
      | inl r ↦
          let f : is_false_code older (get_or new q 0) ≡ true = ap (λ y. is_false_code older (get_or y q 0)) r.1 ∙ f in
          ap (satisfied older) (sym r.1) ∙ sym (same older) ∙ elim (places place q m.low l) [
            | inl y ↦ absurd (false≢true (sym m.unfalse ∙ u (flip (get_or c k 0))
                (ap (is_false_code older) (sym (ap (λ p. get_or new p 0) (sym y) ∙ there)) ∙ f)))
            | inr y ↦ z w.id c q m.found l (ap (is_false_code older) (sym (is_other q l y)) ∙ f)
          ]
    ]

-- once the list is gone through, what was gone through is calm
pub ends : (held : Coded) (lists : Lists) (set : List ℕ) (code : ℕ) → Watched held lists set set code [] → Calm held set
ends held lists set code s id c place h l f = elim (s.kept id c place h l) [
  | inl q ↦ q.calm f
  | inr p ↦ absurd (false≢true p.1)
]
