-- A search for a circle through one node, step by step.
use Rattle.std.proofs.Common.{◌≡◌, ℕ, zero, suc, ◌+◌, ◌<◌, ◌≤◌, Bool, true, false, cond, List, [], ◌∷◌, ◌++◌, length}
use Rattle.std.proofs.Common.{get_or, take, Some, None, refl, ap, sym, ◌∙◌, subst, ◌⊎◌, inl, inr, true≢false, arith}
use Rattle.std.specs.Prelude.{slice_get, slice_set, replicate}
use Rattle.std.proofs.lemmas.Bool.{false≢true, cases_Bool}
use Rattle.std.proofs.lemmas.List.{length-set, length_push, length-replicate, take_more}
use Rattle.std.proofs.lemmas.Option.{none-some, same_Some, slice_get_within}
use Rattle.fv_graph.specs.Graph.{targets, Leads, IsWithin, IsChain, last_node, IsCircle}
use Rattle.fv_graph.proofs.Lists.{get_front, get_last, get_cases}
use Rattle.aiger_text.specs.Circles.{IsOnCircle, is_found, unfound, waiting_with, IsReached, Waits, Searches, Follows}

pub cases_of : {A B C : Type 0} → A ⊎ B → (A → C) → (B → C) → C
cases_of (inl x) f g = f x
cases_of (inr y) f g = g y

-- ---- what was found

found_kept : (found : List Bool) (i j : ℕ) → is_found found j ≡ true → is_found (slice_set found i true) j ≡ true
found_kept [] i j h = h
found_kept (b ∷ bs) zero zero h = refl
found_kept (b ∷ bs) zero (suc j) h = h
found_kept (b ∷ bs) (suc i) zero h = h
found_kept (b ∷ bs) (suc i) (suc j) h = found_kept bs i j h

found_here : (found : List Bool) (i : ℕ) → i < length found → is_found (slice_set found i true) i ≡ true
found_here [] i h = absurd (omega (arith, h))
found_here (b ∷ bs) zero h = refl
found_here (b ∷ bs) (suc i) h = let less : i < length bs = omega (arith, h) in found_here bs i less

found_cases : (found : List Bool) (i j : ℕ) → is_found (slice_set found i true) j ≡ true
    → (is_found found j ≡ true) ⊎ (j ≡ i)
found_cases [] i j h = inl h
found_cases (b ∷ bs) zero zero h = inr refl
found_cases (b ∷ bs) zero (suc j) h = inl h
found_cases (b ∷ bs) (suc i) zero h = inl h
found_cases (b ∷ bs) (suc i) (suc j) h = by (found_cases bs i j h) where
  by : (is_found bs j ≡ true) ⊎ (j ≡ i) → (is_found bs j ≡ true) ⊎ (suc j ≡ suc i)
  by (inl f) = inl f
  by (inr e) = inr (ap suc e)

set_found : (found : List Bool) (i : ℕ) → is_found found i ≡ true → slice_set found i true ≡ found
set_found [] i h = refl
set_found (b ∷ bs) zero h = ap (λ c. c ∷ bs) (sym h)
set_found (b ∷ bs) (suc i) h = ap (λ cs. b ∷ cs) (set_found bs i h)

one_found : (found : List Bool) (i : ℕ) → i < length found → is_found found i ≡ false
    → unfound (slice_set found i true) + 1 ≡ unfound found
one_found [] i l h = absurd (omega (arith, l))
one_found (true ∷ bs) zero l h = absurd (true≢false h)
one_found (false ∷ bs) zero l h = refl
one_found (true ∷ bs) (suc i) l h = let less : i < length bs = omega (arith, l) in one_found bs i less h
one_found (false ∷ bs) (suc i) l h =
    let less : i < length bs = omega (arith, l) in ap (λ n. n + 1) (one_found bs i less h)

none_found : (n i : ℕ) → is_found (replicate n false) i ≡ true → ⊥
none_found zero i h = false≢true h
none_found (suc n) zero h = false≢true h
none_found (suc n) (suc i) h = none_found n i h

-- ---- what waits

waits_front : (waiting : List ℕ) (i j : ℕ) → Waits waiting j → Waits (waiting ++ i ∷ []) j
waits_front waiting i j w = (w.0, get_front waiting i w.0 j w.1)

waits_last : (waiting : List ℕ) (i : ℕ) → Waits (waiting ++ i ∷ []) i
waits_last waiting i = (length waiting, get_last waiting i)

waits_cases : (waiting : List ℕ) (i j : ℕ) → Waits (waiting ++ i ∷ []) j → Waits waiting j ⊎ (i ≡ j)
waits_cases waiting i j w = by (get_cases waiting i w.0 j w.1) where
  by : (slice_get waiting w.0 ≡ Some j) ⊎ ((w.0 ≡ length waiting) × (i ≡ j)) → Waits waiting j ⊎ (i ≡ j)
  by (inl e) = inl (w.0, e)
  by (inr e) = inr e.1

none_waits : (i : ℕ) → Waits [] i → ⊥
none_waits i w = none-some i w.1

-- ---- the targets of a row

pub follows_none : (goal : ℕ) (found : List Bool) (waiting : List ℕ) → Follows [] goal found waiting found waiting
follows_none goal found waiting = record {
  size = refl;
  kept = λ i h. h;
  still = λ i w. w;
  found_new = λ i h. inl h;
  waits_new = λ i w. inl w;
  all = λ i w. absurd (none_waits i w);
  count = refl;
}

-- a target that was found before
follows_old : (row : List ℕ) (goal i : ℕ) (f : List Bool) (w : List ℕ) (g : List Bool) (v : List ℕ)
    → Follows row goal f w g v → (i ≡ goal → ⊥) → is_found g i ≡ true → Follows (row ++ i ∷ []) goal f w g v
follows_old row goal i f w g v h other e = record {
  size = h.size;
  kept = h.kept;
  still = h.still;
  found_new = h.found_new;
  waits_new = λ j x. cases_of (h.waits_new j x) (λ y. inl y) (λ y. inr (waits_front row i j y));
  all = λ j x. cases_of (waits_cases row i j x) (λ y. h.all j y) (λ s. (ap (is_found g) (sym s) ∙ e, λ z. other (s ∙ z)));
  count = h.count;
}

-- a target that wasn't
follows_new : (row : List ℕ) (goal i : ℕ) (f : List Bool) (w : List ℕ) (g : List Bool) (v : List ℕ)
    → Follows row goal f w g v → (i ≡ goal → ⊥) → i < length g → is_found g i ≡ false
    → Follows (row ++ i ∷ []) goal f w (slice_set g i true) (v ++ i ∷ [])
follows_new row goal i f w g v h other less e = record {
  size = length-set g i true ∙ h.size;
  kept = λ j x. found_kept g i j (h.kept j x);
  still = λ j x. waits_front v i j (h.still j x);
  found_new = λ j x. cases_of (found_cases g i j x)
      (λ y. cases_of (h.found_new j y) (λ z. inl z) (λ z. inr (waits_front v i j z)))
      (λ s. inr (subst (Waits (v ++ i ∷ [])) (sym s) (waits_last v i)));
  waits_new = λ j x. cases_of (waits_cases v i j x)
      (λ y. cases_of (h.waits_new j y) (λ z. inl z) (λ z. inr (waits_front row i j z)))
      (λ s. inr (subst (Waits (row ++ i ∷ [])) s (waits_last row i)));
  all = λ j x. cases_of (waits_cases row i j x) (λ y. (found_kept g i j (h.all j y).0, (h.all j y).1))
      (λ s. (subst (λ k. is_found (slice_set g i true) k ≡ true) s (found_here g i less), λ z. other (s ∙ z)));
  count =
      let one = one_found g i less e in
      let more = length_push v i in
      let same = h.count in
      omega (arith, one, more, same);
}

follows_more : (row : List ℕ) (goal i : ℕ) (f : List Bool) (w : List ℕ) (g : List Bool) (v : List ℕ)
    → Follows row goal f w g v → (i ≡ goal → ⊥) → i < length g
    → Follows (row ++ i ∷ []) goal f w (slice_set g i true) (waiting_with g v i)
follows_more row goal i f w g v h other less = by (cases_Bool (is_found g i)) where
  by : (is_found g i ≡ true) ⊎ (is_found g i ≡ false)
      → Follows (row ++ i ∷ []) goal f w (slice_set g i true) (waiting_with g v i)
  by (inl e) =
      subst (λ x. Follows (row ++ i ∷ []) goal f w x (waiting_with g v i)) (sym (set_found g i e))
      (subst (Follows (row ++ i ∷ []) goal f w g) (sym (ap (λ b. cond b v (v ++ i ∷ [])) e))
      (follows_old row goal i f w g v h other e))
  by (inr e) =
      subst (Follows (row ++ i ∷ []) goal f w (slice_set g i true)) (sym (ap (λ b. cond b v (v ++ i ∷ [])) e))
      (follows_new row goal i f w g v h other less e)

-- one target more of a row that is read
pub follows_next : (row : List ℕ) (k goal i : ℕ) (f : List Bool) (w : List ℕ) (g : List Bool) (v : List ℕ)
    (new : List Bool) (now : List ℕ) → k < length row → i ≡ get_or row k 0 → Follows (take k row) goal f w g v
    → (i ≡ goal → ⊥) → i < length g → new ≡ slice_set g i true → now ≡ waiting_with g v i
    → Follows (take (k + 1) row) goal f w new now
follows_next row k goal i f w g v new now less e h other there n m =
    let more : take k row ++ i ∷ [] ≡ take (k + 1) row =
    ap (λ x. take k row ++ x ∷ []) e ∙ sym (take_more row k 0 less) in
    subst (λ r. Follows r goal f w new now) more
    (subst (λ x. Follows (take k row ++ i ∷ []) goal f w x now) (sym n)
    (subst (Follows (take k row ++ i ∷ []) goal f w (slice_set g i true)) (sym m)
    (follows_more (take k row) goal i f w g v h other there)))

-- ---- the search

chain_more : (graph : List (List ℕ)) (i : ℕ) (is : List ℕ) (j : ℕ) → IsChain graph i is → Leads graph (last_node i is) j
    → IsChain graph i (is ++ j ∷ []) × (last_node i (is ++ j ∷ []) ≡ j)
chain_more graph i [] j c l = ((l, tt), refl)
chain_more graph i (k ∷ ks) j c l = let r = chain_more graph k ks j c.1 l in ((c.0, r.0), r.1)

waits_one : (i j : ℕ) → Waits (i ∷ []) j → i ≡ j
waits_one i j w = by w.0 w.1 where
  by : (a : ℕ) → slice_get (i ∷ []) a ≡ Some j → i ≡ j
  by zero e = same_Some i j e
  by (suc a) e = absurd (none-some j e)

first : (graph : List (List ℕ)) (goal n : ℕ) → n ≡ length graph → goal < n
    → Searches graph goal (slice_set (replicate n false) goal true) (goal ∷ [])
first graph goal n e less = record {
  size = length-set (replicate n false) goal true ∙ length-replicate n false ∙ e;
  start = found_here (replicate n false) goal (let l = length-replicate n false in omega (arith, l, less));
  reached = λ i x. let s = waits_one goal i x in (omega (arith, s, e, less), ([], tt, s));
  followed = λ i x. cases_of (found_cases (replicate n false) goal i x) (λ y. absurd (none_found n i y))
      (λ s. inl (0, ap (λ k. Some k) (sym s)));
}

pub begins : (graph : List (List ℕ)) (goal n : ℕ) (found : List Bool) (waiting : List ℕ) → n ≡ length graph → goal < n
    → found ≡ slice_set (replicate n false) goal true → waiting ≡ goal ∷ [] → Searches graph goal found waiting
begins graph goal n found waiting e less f w =
    subst (λ x. Searches graph goal x waiting) (sym f)
    (subst (Searches graph goal (slice_set (replicate n false) goal true)) (sym w) (first graph goal n e less))

-- the node that was taken off
module _ (graph : List (List ℕ)) (goal next : ℕ) (row : List ℕ) (f : List Bool) (all w : List ℕ)
    (popped : all ≡ w ++ next ∷ []) (t : targets graph next ≡ row) (s : Searches graph goal f all) where
  waited : (i : ℕ) → Waits w i → Waits all i
  waited i x = subst (λ ws. Waits ws i) (sym popped) (waits_front w next i x)

  leads : (i : ℕ) → Waits row i → Leads graph next i
  leads i x = (x.0, ap (λ r. slice_get r x.0) t ∙ x.1)

  reached_next : IsReached graph goal next
  reached_next = (s.reached next (subst (λ ws. Waits ws next) (sym popped) (waits_last w next))).1

  pub there : next < length graph
  there = (s.reached next (subst (λ ws. Waits ws next) (sym popped) (waits_last w next))).0

  -- a target is the goal
  pub closes : Waits row goal → IsOnCircle graph goal
  closes x =
      let r = reached_next in
      (r.0, (r.1, subst (λ k. Leads graph k goal) (sym r.2) (leads goal x)))

  reaches : IsWithin graph → (i : ℕ) → Waits row i → (i < length graph) × IsReached graph goal i
  reaches within i x =
      let r = reached_next in
      let c = chain_more graph goal r.0 i r.1 (subst (λ k. Leads graph k i) (sym r.2) (leads i x)) in
      (within next i (leads i x), (r.0 ++ i ∷ [], c.0, c.1))

  -- all targets were found
  module _ (g : List Bool) (v : List ℕ) (within : IsWithin graph) (h : Follows row goal f w g v) where
    all_found : (i j : ℕ) → next ≡ i → Leads graph i j → (is_found g j ≡ true) × (j ≡ goal → ⊥)
    all_found i j e l =
        let m : Leads graph next j = subst (λ k. Leads graph k j) (sym e) l in
        h.all j (m.0, ap (λ r. slice_get r m.0) (sym t) ∙ m.1)

    again : (i : ℕ) → is_found f i ≡ true
        → Waits v i ⊎ ((j : ℕ) → Leads graph i j → (is_found g j ≡ true) × (j ≡ goal → ⊥))
    again i x = cases_of (s.followed i x)
        (λ y. cases_of (waits_cases w next i (subst (λ ws. Waits ws i) popped y)) (λ z. inl (h.still i z))
        (λ e. inr (λ j l. all_found i j e l)))
        (λ y. inr (λ j l. (h.kept j (y j l).0, (y j l).1)))

    pub goes_on : Searches graph goal g v
    goes_on = record {
      size = h.size ∙ s.size;
      start = h.kept goal s.start;
      reached = λ i x. cases_of (h.waits_new i x) (λ y. s.reached i (waited i y)) (λ y. reaches within i y);
      followed = λ i x. cases_of (h.found_new i x) (λ y. again i y) (λ y. inl y);
    }

-- nothing waits any more
module _ (graph : List (List ℕ)) (goal : ℕ) (f : List Bool) (all : List ℕ) (none : all ≡ [])
    (s : Searches graph goal f all) where
  nothing : (i : ℕ) → Waits all i → ⊥
  nothing i x = none_waits i (subst (λ ws. Waits ws i) none x)

  closed : (i j : ℕ) → is_found f i ≡ true → Leads graph i j → (is_found f j ≡ true) × (j ≡ goal → ⊥)
  closed i j x l = by (s.followed i x) where
    by : Waits all i ⊎ ((j : ℕ) → Leads graph i j → (is_found f j ≡ true) × (j ≡ goal → ⊥))
        → (is_found f j ≡ true) × (j ≡ goal → ⊥)
    by (inl y) = absurd (nothing i y)
    by (inr y) = y j l

  never : (i : ℕ) (is : List ℕ) → is_found f i ≡ true → IsChain graph i is → Leads graph (last_node i is) goal → ⊥
  never i [] x c l = (closed i goal x l).1 refl
  never i (j ∷ js) x c l = never j js (closed i j x c.0).0 c.1 l

  pub no_circle : IsOnCircle graph goal → ⊥
  no_circle c = never goal c.0 s.start c.1.0 c.1.1

-- there is less to do
pub less_left : (f g : List Bool) (all w v : List ℕ) (next : ℕ) → all ≡ w ++ next ∷ []
    → unfound g + length v ≡ unfound f + length w → unfound g + length v < unfound f + length all
less_left f g all w v next e h =
    let l = ap length e ∙ length_push w next in
    omega (arith, l, h)
