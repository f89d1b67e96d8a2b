-- Spans and the clauses that they hold.
use Rattle.std.proofs.Common.{◌≡◌, ℕ, zero, suc, ◌+◌, ◌-◌, ◌<◌, ◌≤◌, Bool, true, false, cond, eqb, ltb, List, [], ◌∷◌}
use Rattle.std.proofs.Common.{◌++◌, length, get_or, set, take, drop, Option, Some, None, refl, ap, sym, subst, ◌∙◌}
use Rattle.std.proofs.Common.{◌⊎◌, inl, inr, arith, length-append, length-drop}
use Rattle.std.specs.Prelude.{slice_range, IsSome}
use Rattle.std.specs.List.{swap}
use Rattle.std.proofs.lemmas.Bool.{cases_eq, cases_Bool}
use Rattle.std.proofs.lemmas.List.{ext_get_or, drop-append-le, take-append-le, drop_at, take_all, get_or_append_left}
use Rattle.std.proofs.lemmas.List.{get_or_push, get_or-set_same, get_or-set_other, length-set, length_push}
use Rattle.std.proofs.lemmas.List.Edits.{swapped_from_swap, length-swap, length-between, get_or-between}
use mathlib.Core.Path.{fun_ext}
use Rattle.cnf_form.proofs.Parts.{part_kept, part_last}
use Rattle.lrat_check.specs.Store.{Span, Coded, part, found, span_at, with_code, without_code, Climbing, Laid, NoSpan}
use Rattle.lrat_check.specs.Store.{IsSpan, Removes}

pub eq_self : (a b : ℕ) → a ≡ b → eqb a b ≡ true
eq_self a b e = grind arith

pub eq_apart : (a b : ℕ) → (a ≡ b → ⊥) → eqb a b ≡ false
eq_apart a b n = grind arith

ltb_true : (a b : ℕ) → ltb a b ≡ true → a < b
ltb_true a b e = grind (arith, e)

ltb_false : (a b : ℕ) → ltb a b ≡ false → b ≤ a
ltb_false a b e = grind (arith, e)

rest : (span : Span) (spans : List Span) → Climbing (span ∷ spans) → Climbing spans
rest span spans r i k l m = r (suc i) (suc k) (omega (arith, l)) (omega (arith, m))

pub found_at : (all : List ℕ) (spans : List Span) (k id : ℕ) → Climbing spans → IsSpan spans id k
    → found all spans id ≡ part all (span_at spans k)
found_at all [] k id r h = absurd (omega (arith, h.0))
found_at all (span ∷ spans) zero id r h = ap (λ b. cond b (part all span) (found all spans id)) (eq_self span.id id h.1)
found_at all (span ∷ spans) (suc k) id r h =
    ap (λ b. cond b (part all span) (found all spans id))
    (eq_apart span.id id (λ q. omega (arith, r 0 (suc k) (omega arith) h.0, h.1, q)))
    ∙ found_at all spans k id (rest span spans r) (omega (arith, h.0), h.1)

pub found_none : (all : List ℕ) (spans : List Span) (id : ℕ) → NoSpan spans id → found all spans id ≡ None
found_none all [] id n = refl
found_none all (span ∷ spans) id n =
    ap (λ b. cond b (part all span) (found all spans id)) (eq_apart span.id id (n 0 (omega arith)))
    ∙ found_none all spans id (λ k l. n (suc k) (omega (arith, l)))

no_span : (span : Span) (spans : List Span) (id : ℕ) → (span.id ≡ id → ⊥) → NoSpan spans id → NoSpan (span ∷ spans) id
no_span span spans id h n zero l = h
no_span span spans id h n (suc k) l = n k (omega (arith, l))

pub some_span : (spans : List Span) (id : ℕ) → ((k : ℕ) × IsSpan spans id k) ⊎ NoSpan spans id
some_span [] id = inr (λ k l. absurd (omega (arith, l)))
some_span (span ∷ spans) id = elim (cases_eq span.id id) [
  | inl e ↦ inl (0, (omega arith, e))
  | inr n ↦ elim (some_span spans id) [
    | inl r ↦ inl (suc r.0, (omega (arith, r.1.0), r.1.1))
    | inr m ↦ inr (no_span span spans id n m)
  ]
]

-- two spans with one id are one
pub same_place : (spans : List Span) (k j id : ℕ) → Climbing spans → IsSpan spans id k → IsSpan spans id j → k ≡ j
same_place spans k j id r h m = elim (cases_eq k j) [
  | inl e ↦ e
  | inr n ↦ elim (cases_Bool (ltb k j)) [
    | inl q ↦ absurd (omega (arith, r k j (ltb_true k j q) m.0, h.1, m.1))
    | inr q ↦ absurd (omega (arith, r j k (omega (arith, ltb_false k j q, n)) h.0, h.1, m.1))
  ]
]

module _ (all more : List ℕ) (r : Span) (held : r.held ≡ true)
    (is : slice_range (all ++ more) r.start r.end ≡ more) where
  last : part (all ++ more) r ≡ Some more
  last = ap (λ b. cond b (Some (slice_range (all ++ more) r.start r.end)) None) held ∙ ap Some is

  kept : (span : Span) → span.start ≤ span.end → span.end ≤ length all → part (all ++ more) span ≡ part all span
  kept span l m = ap (λ x. cond span.held (Some x) None) (part_kept all more span.start span.end l m)

  pushed_at : (spans : List Span) (i : ℕ) → ((k : ℕ) → k < length spans
      → ((span_at spans k).start ≤ (span_at spans k).end) × ((span_at spans k).end ≤ length all)
      × ((span_at spans k).id < r.id))
      → found (all ++ more) (spans ++ r ∷ []) i ≡ with_code (found all spans) r.id more i
  pushed_at [] i h = ap (λ p. cond (eqb r.id i) p None) last
  pushed_at (span ∷ spans) i h = elim (cases_eq span.id i) [
    | inl e ↦
        ap (λ b. cond b (part (all ++ more) span) (found (all ++ more) (spans ++ r ∷ []) i)) (eq_self span.id i e)
        ∙ kept span (h 0 (omega arith)).0 (h 0 (omega arith)).1
        ∙ sym (ap (λ b. cond b (part all span) (found all spans i)) (eq_self span.id i e))
        ∙ sym (ap (λ b. cond b (Some more) (found all (span ∷ spans) i))
        (eq_apart r.id i (λ q. omega (arith, (h 0 (omega arith)).2, e, q))))
    | inr n ↦
        ap (λ b. cond b (part (all ++ more) span) (found (all ++ more) (spans ++ r ∷ []) i)) (eq_apart span.id i n)
        ∙ pushed_at spans i (λ k l. h (suc k) (omega (arith, l)))
        ∙ sym (ap (λ b. cond (eqb r.id i) (Some more) (cond b (part all span) (found all spans i)))
        (eq_apart span.id i n))
  ]

-- a clause with a new id comes behind the others
pub pushed : (all more : List ℕ) (spans : List Span) (r : Span) (top : ℕ) → Laid spans (length all) top → top ≤ r.id
    → r.held ≡ true → r.start ≡ length all → r.end ≡ length (all ++ more)
    → found (all ++ more) (spans ++ r ∷ []) ≡ with_code (found all spans) r.id more
pushed all more spans r top l t h s e =
    fun_ext (λ i. pushed_at all more r h (part_last all more r.start r.end s e) spans i
    (λ k m. let w = l.within k m in (w.0, w.1, omega (arith, w.2, t))))

span_left : (spans : List Span) (r : Span) (k : ℕ) → k < length spans → span_at (spans ++ r ∷ []) k ≡ span_at spans k
span_left spans r k l = get_or_append_left spans (r ∷ []) (record { id = 0; start = 0; end = 0; held = false }) k l

span_last : (spans : List Span) (r : Span) (k : ℕ) → k ≡ length spans → span_at (spans ++ r ∷ []) k ≡ r
span_last spans r k e = get_or_push spans r (record { id = 0; start = 0; end = 0; held = false }) k (sym e)

module _ (spans : List Span) (r : Span) (end more top : ℕ) (l : Laid spans end top) (t : top ≤ r.id) (s : r.start ≡ end)
    (e : r.end ≡ more) (m : end ≤ more) where
  place : (k : ℕ) → k < length (spans ++ r ∷ []) → (k < length spans) ⊎ (k ≡ length spans)
  place k h = elim (cases_eq k (length spans)) [
    | inl q ↦ inr q
    | inr n ↦ inl (omega (arith, n, h, length_push spans r))
  ]

  within_at : (k : ℕ) → k < length (spans ++ r ∷ [])
      → ((span_at (spans ++ r ∷ []) k).start ≤ (span_at (spans ++ r ∷ []) k).end)
      × ((span_at (spans ++ r ∷ []) k).end ≤ more) × ((span_at (spans ++ r ∷ []) k).id < r.id + 1)
  within_at k h =
      let P : Span → Type 0 = λ x. (x.start ≤ x.end) × (x.end ≤ more) × (x.id < r.id + 1) in
      elim (place k h) [
        | inl q ↦ let w =
            l.within k q in subst P (sym (span_left spans r k q)) (w.0, omega (arith, w.1, m), omega (arith, w.2, t))
        | inr q ↦ subst P (sym (span_last spans r k q)) (omega (arith, s, e, m), omega (arith, e), omega arith)
      ]

  behind_at : (i k : ℕ) → i < k → k < length (spans ++ r ∷ [])
      → ((span_at (spans ++ r ∷ []) i).end ≤ (span_at (spans ++ r ∷ []) k).start)
      × ((span_at (spans ++ r ∷ []) i).id < (span_at (spans ++ r ∷ []) k).id)
  behind_at i k h j =
      let P : Span → Span → Type 0 = λ x y. (x.end ≤ y.start) × (x.id < y.id) in
      elim (place k j) [
        | inl q ↦
            let p : i < length spans = omega (arith, h, q) in
            let Q : Span → Type 0 = λ x. P x (span_at (spans ++ r ∷ []) k) in
            subst Q (sym (span_left spans r i p)) (subst (P (span_at spans i)) (sym (span_left spans r k q))
            (l.behind i k h q, l.climbing i k h q))
        | inr q ↦
            let p : i < length spans = omega (arith, h, q) in
            let w = l.within i p in
            let Q : Span → Type 0 = λ x. P x (span_at (spans ++ r ∷ []) k) in
            subst Q (sym (span_left spans r i p)) (subst (P (span_at spans i)) (sym (span_last spans r k q))
            (omega (arith, w.1, s), omega (arith, w.2, t)))
      ]

  pub laid_push : Laid (spans ++ r ∷ []) more (r.id + 1)
  laid_push = record {
    within = within_at;
    behind = λ i k h j. (behind_at i k h j).0;
    climbing = λ i k h j. (behind_at i k h j).1;
  }

-- what lies outside of two places stays where they are exchanged
module _ (all : List ℕ) (p q : ℕ) (hp : p < length all) (hq : q < length all) where
  outside_at : (s e : ℕ) → e ≤ length all → ((i : ℕ) → s ≤ i → i < e → (i ≡ p → ⊥) × (i ≡ q → ⊥)) → (i : ℕ)
      → i < e - s → get_or (slice_range (swap all p q) s e) i 0 ≡ get_or (slice_range all s e) i 0
  outside_at s e m h i l =
      let b : s + i < e = omega (arith, l) in
      let n = h (s + i) (omega arith) b in
      get_or-between (swap all p q) s e i 0 b ∙ (swapped_from_swap all (swap all p q) p q 0 hp hq refl).2
      (s + i) n.0 n.1 ∙ sym (get_or-between all s e i 0 b)

  pub outside : (s e : ℕ) → e ≤ length all → ((i : ℕ) → s ≤ i → i < e → (i ≡ p → ⊥) × (i ≡ q → ⊥))
      → slice_range (swap all p q) s e ≡ slice_range all s e
  outside s e m h =
      let n = length-between (swap all p q) s e (omega (arith, m, length-swap all p q)) in
      ext_get_or 0 (slice_range (swap all p q) s e) (slice_range all s e) (n ∙ sym (length-between all s e m))
      (λ i l. outside_at s e m h i (omega (arith, l, n)))

-- an exchange of two places of a part is one of that part
module _ (all : List ℕ) (s e a b : ℕ) (ha : a < e - s) (hb : b < e - s) (m : e ≤ length all) where
  abbrev now : List ℕ
  now = swap all (s + a) (s + b)

  abbrev one : List ℕ
  one = slice_range all s e

  many : length one ≡ e - s
  many = length-between all s e m

  read : (i : ℕ) → i < e - s → get_or one i 0 ≡ get_or all (s + i) 0
  read i l = get_or-between all s e i 0 (omega (arith, l))

  read_now : (i : ℕ) → i < e - s → get_or (slice_range now s e) i 0 ≡ get_or now (s + i) 0
  read_now i l = get_or-between now s e i 0 (omega (arith, l))

  inside_at : (i : ℕ) → i < e - s → get_or (slice_range now s e) i 0 ≡ get_or (swap one a b) i 0
  inside_at i l =
      let g = swapped_from_swap all now (s + a) (s + b) 0 (omega (arith, ha, m)) (omega (arith, hb, m)) refl in
      let f = swapped_from_swap one (swap one a b) a b 0 (omega (arith, ha, many)) (omega (arith, hb, many)) refl in
      elim (cases_eq i a) [
        | inl q ↦ read_now i l ∙ ap (λ k. get_or now (s + k) 0) q ∙ g.0 ∙ sym (read b hb) ∙ sym f.0
            ∙ ap (λ k. get_or (swap one a b) k 0) (sym q)
        | inr n ↦ elim (cases_eq i b) [
          | inl q ↦ read_now i l ∙ ap (λ k. get_or now (s + k) 0) q ∙ g.1 ∙ sym (read a ha) ∙ sym f.1
              ∙ ap (λ k. get_or (swap one a b) k 0) (sym q)
          | inr o ↦ read_now i l ∙ g.2 (s + i) (λ z. n (omega (arith, z))) (λ z. o (omega (arith, z)))
              ∙ sym (read i l) ∙ sym (f.2 i n o)
        ]
      ]

  pub inside : slice_range now s e ≡ swap one a b
  inside =
      let n = length-between now s e (omega (arith, m, length-swap all (s + a) (s + b))) in
      ext_get_or 0 (slice_range now s e) (swap one a b) (n ∙ sym (length-swap one a b ∙ many))
      (λ i l. inside_at i (omega (arith, l, n)))

pub none_some : {X : Type 0} (x : X) → None ≡ Some x → ⊥
none_some x e = cc

pub some_is : {X : Type 0} (x y : X) → Some x ≡ Some y → x ≡ y
some_is x y e = cc

-- what a span with a clause holds
pub part_some : (all : List ℕ) (span : Span) (clause : List ℕ) (b : Bool) → span.held ≡ b → part all span ≡ Some clause
    → (span.held ≡ true) × (slice_range all span.start span.end ≡ clause)
part_some all span clause true h e = (
  h,
  some_is (slice_range all span.start span.end) clause
      (sym (ap (λ b. cond b (Some (slice_range all span.start span.end)) None) h) ∙ e),
)
part_some all span clause false h e =
    absurd (none_some clause (sym (ap (λ b. cond b (Some (slice_range all span.start span.end)) None) h) ∙ e))

module _ (all : List ℕ) (spans : List Span) (top id place a b : ℕ) (clause : List ℕ) (l : Laid spans (length all) top)
    (r : IsSpan spans id place) (f : found all spans id ≡ Some clause) (ha : a < length clause)
    (hb : b < length clause) where
  abbrev span : Span
  span = span_at spans place

  holds : (span.held ≡ true) × (slice_range all span.start span.end ≡ clause)
  holds = part_some all span clause span.held refl (sym (found_at all spans place id l.climbing r) ∙ f)

  fits : (span.start ≤ span.end) × (span.end ≤ length all)
  fits = let w = l.within place r.0 in (w.0, w.1)

  long : length clause ≡ span.end - span.start
  long = ap length (sym holds.1) ∙ length-between all span.start span.end fits.1

  -- both places lie among the all
  pub in_range : (span.start + a < length all) × (span.start + b < length all)
  in_range = (omega (arith, ha, long, fits.0, fits.1), omega (arith, hb, long, fits.0, fits.1))

  abbrev then : List ℕ
  then = swap all (span.start + a) (span.start + b)

  here : part then span ≡ Some (swap clause a b)
  here =
      ap (λ z. cond z (Some (slice_range then span.start span.end)) None) holds.0
      ∙ ap Some (inside all span.start span.end a b (omega (arith, ha, long)) (omega (arith, hb, long)) fits.1
      ∙ ap (λ c. swap c a b) holds.1)

  away : (k i : ℕ) → k < length spans → (k ≡ place → ⊥) → (span_at spans k).start ≤ i → i < (span_at spans k).end
      → (i ≡ span.start + a → ⊥) × (i ≡ span.start + b → ⊥)
  away k i h n u v = elim (cases_Bool (ltb k place)) [
    | inl q ↦ let w =
        l.behind k place (ltb_true k place q) r.0 in (λ z. omega (arith, z, w, v), λ z. omega (arith, z, w, v))
    | inr q ↦ let w = l.behind place k (omega (arith, ltb_false k place q, n)) h
        in (λ z. omega (arith, z, w, u, ha, long), λ z. omega (arith, z, w, u, hb, long))
  ]

  there : (k : ℕ) → k < length spans → (k ≡ place → ⊥) → part then (span_at spans k) ≡ part all (span_at spans k)
  there k h n = ap (λ x. cond (span_at spans k).held (Some x) None)
      (outside all (span.start + a) (span.start + b) in_range.0 in_range.1 (span_at spans k).start (span_at spans k).end
      (l.within k h).1 (λ i u v. away k i h n u v))

  swapped_at : (i : ℕ) → found then spans i ≡ with_code (found all spans) id (swap clause a b) i
  swapped_at i = elim (some_span spans i) [
    | inl k ↦ elim (cases_eq k.0 place) [
      | inl q ↦
          found_at then spans k.0 i l.climbing k.1 ∙ ap (λ z. part then (span_at spans z)) q ∙ here
          ∙ sym (ap (λ z. cond z (Some (swap clause a b)) (found all spans i))
          (eq_self id i (sym r.1 ∙ ap (λ z. (span_at spans z).id) (sym q) ∙ k.1.1)))
      | inr n ↦
          found_at then spans k.0 i l.climbing k.1 ∙ there k.0 k.1.0 n ∙ sym (found_at all spans k.0 i l.climbing k.1)
          ∙ sym (ap (λ z. cond z (Some (swap clause a b)) (found all spans i))
          (eq_apart id i (λ z. n (same_place spans k.0 place i l.climbing k.1 (r.0, r.1 ∙ z)))))
    ]
    | inr n ↦
        found_none then spans i n ∙ sym (found_none all spans i n)
        ∙ sym (ap (λ z. cond z (Some (swap clause a b)) (found all spans i))
        (eq_apart id i (λ z. n place r.0 (r.1 ∙ z))))
  ]

  pub swapped : found then spans ≡ with_code (found all spans) id (swap clause a b)
  swapped = fun_ext swapped_at

-- a span that holds no longer
module _ (all : List ℕ) (now : Span) (gone : now.held ≡ false) where
  none : part all now ≡ None
  none = ap (λ b. cond b (Some (slice_range all now.start now.end)) None) gone

  removed_at : (spans : List Span) (id place i : ℕ) → Climbing spans → IsSpan spans id place → now.id ≡ id
      → found all (set spans place now) i ≡ without_code (found all spans) id i
  removed_at [] id place i l r e = absurd (omega (arith, r.0))
  removed_at (span ∷ spans) id zero i l r e = elim (cases_eq id i) [
    | inl q ↦
        ap (λ b. cond b (part all now) (found all spans i)) (eq_self now.id i (e ∙ q)) ∙ none
        ∙ sym (ap (λ b. cond b None (found all (span ∷ spans) i)) (eq_self id i q))
    | inr n ↦
        ap (λ b. cond b (part all now) (found all spans i)) (eq_apart now.id i (λ z. n (sym e ∙ z)))
        ∙ sym (ap (λ b. cond b None (cond (eqb span.id i) (part all span) (found all spans i))) (eq_apart id i n)
        ∙ ap (λ b. cond b (part all span) (found all spans i)) (eq_apart span.id i (λ z. n (sym r.1 ∙ z))))
  ]
  removed_at (span ∷ spans) id (suc place) i l r e = elim (cases_eq span.id i) [
    | inl q ↦
        ap (λ b. cond b (part all span) (found all (set spans place now) i)) (eq_self span.id i q)
        ∙ sym (ap (λ b. cond b None (cond (eqb span.id i) (part all span) (found all spans i)))
        (eq_apart id i (λ z. omega (arith, l 0 (suc place) (omega arith) r.0, r.1, q, z)))
        ∙ ap (λ b. cond b (part all span) (found all spans i)) (eq_self span.id i q))
    | inr n ↦
        ap (λ b. cond b (part all span) (found all (set spans place now) i)) (eq_apart span.id i n)
        ∙ removed_at spans id place i (rest span spans l) (omega (arith, r.0), r.1) e
        ∙ sym (ap (λ b. cond (eqb id i) None (cond b (part all span) (found all spans i))) (eq_apart span.id i n))
  ]

  pub removed : (spans : List Span) (id place : ℕ) → Climbing spans → IsSpan spans id place → now.id ≡ id
      → found all (set spans place now) ≡ without_code (found all spans) id
  removed spans id place l r e = fun_ext (λ i. removed_at spans id place i l r e)

module _ (all : List ℕ) (spans : List Span) (id place : ℕ) (span now : Span) (before : Coded) where
  -- what is held once a span holds no longer
  pub removes : (b : Bool) → span.held ≡ b → Climbing spans → IsSpan spans id place → span ≡ span_at spans place
      → before ≡ found all spans → now.held ≡ false → now.id ≡ span.id
      → Removes before (found all (set spans place now)) id b
  removes true h l r g e gone k =
      let is : before id ≡ Some (slice_range all span.start span.end) =
      ap (λ f. f id) e ∙ found_at all spans place id l r ∙ ap (part all) (sym g)
      ∙ ap (λ b. cond b (Some (slice_range all span.start span.end)) None) h in
      let P : Option (List ℕ) → Type 0 = λ o. IsSome o in (
        subst P (sym is) refl,
        removed all now gone spans id place l r (k ∙ ap (λ x. x.id) g ∙ r.1) ∙ ap (λ f. without_code f id) (sym e),
      )
  removes false h l r g e gone k =
      ap (λ f. f id) e ∙ found_at all spans place id l r ∙ ap (part all) (sym g)
      ∙ ap (λ b. cond b (Some (slice_range all span.start span.end)) None) h

-- a span that only holds no longer lies where it lay
module _ (spans : List Span) (place end top : ℕ) (now : Span) (h : place < length spans) (l : Laid spans end top)
    (s : now.start ≡ (span_at spans place).start) (e : now.end ≡ (span_at spans place).end)
    (n : now.id ≡ (span_at spans place).id) where
  same : (k : ℕ) → ((span_at (set spans place now) k).start ≡ (span_at spans k).start)
      × ((span_at (set spans place now) k).end ≡ (span_at spans k).end)
      × ((span_at (set spans place now) k).id ≡ (span_at spans k).id)
  same k = elim (cases_eq k place) [
    | inl q ↦
        let P : ℕ → Type 0 = λ j. ((span_at (set spans place now) j).start ≡ (span_at spans j).start)
        × ((span_at (set spans place now) j).end ≡ (span_at spans j).end)
        × ((span_at (set spans place now) j).id ≡ (span_at spans j).id) in
        let g : span_at (set spans place now) place
        ≡ now = get_or-set_same spans place now (record { id = 0; start = 0; end = 0; held = false }) h in
        subst P (sym q) (ap (λ x. x.start) g ∙ s, ap (λ x. x.end) g ∙ e, ap (λ x. x.id) g ∙ n)
    | inr q ↦
        let g : span_at (set spans place now) k ≡ span_at spans k = get_or-set_other spans place k now
        (record { id = 0; start = 0; end = 0; held = false }) q in
        (ap (λ x. x.start) g, ap (λ x. x.end) g, ap (λ x. x.id) g)
  ]

  pub laid_set : Laid (set spans place now) end top
  laid_set = record {
    within = λ k m. let w = l.within k (omega (arith, m, length-set spans place now)) in let g = same k
        in (omega (arith, w.0, g.0, g.1), omega (arith, w.1, g.1), omega (arith, w.2, g.2));
    behind = λ i k j m. omega (
      arith,
      l.behind i k j (omega (arith, m, length-set spans place now)),
      (same i).1,
      (same k).0,
    );
    climbing = λ i k j m. omega (
      arith,
      l.climbing i k j (omega (arith, m, length-set spans place now)),
      (same i).2,
      (same k).2,
    );
  }
