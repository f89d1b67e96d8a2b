-- An order of all drivers, from which the clocked ones are left out.
use Rattle.std.specs.Prelude.{◌≡◌, refl, ℕ, zero, suc, ◌+◌, ◌<◌, ◌==◌}
use Rattle.std.specs.Prelude.{not, take, List, [], ◌∷◌, ◌++◌, length, true, false}
use Rattle.std.specs.Prelude.{Bool, Option, Some, None, is_none, slice_get, if◌then◌else◌}
use Rattle.std.proofs.Common.{ap, sym, ◌∙◌, arith, true≢false, get_or, ◌⊎◌, inl, inr}
use Rattle.std.proofs.lemmas.Bool.{cases_order}
use Rattle.std.proofs.lemmas.Bool.Decides.{nat_tests}
use Rattle.std.proofs.lemmas.List.{append-nil, take_more}
use Rattle.std.proofs.lemmas.Option.{same_Some}
use Rattle.vl_size.specs.declared.decl.Decl.{Decl}
use Rattle.vl_mean.specs.declared.driver.Driver.{Driver}
use Rattle.vl_flow_spec.specs.Drivers.{is_clocked}
use Rattle.vl_flow_spec.proofs.Bools.{or_left, or_right, or_case}
use Rattle.vl_flow_spec.specs.Refusals.{ReadsFrom}
use Rattle.vl_flow_spec.specs.Sequence.{IsSequence, is_settled, has_number}
use Rattle.vl_flow_cells.proofs.Lists.{get_less, get_some}
use Rattle.fv_graph.specs.Graph.{IsOrder, has_node}
use Rattle.vl_flow_order.specs.declared.footprint.Footprint.{Footprint}
use Rattle.vl_flow_order.specs.declared.reads_groups.Groups.{Groups}
use Rattle.vl_flow_order.specs.Reads.{IsReadingGraph}
use Rattle.vl_flow_order.specs.Footprints.{AreFootprintsOf}
use Rattle.vl_flow_order.specs.Numbers.{AreNumbers, settles, settled_of}
use Rattle.vl_flow_order.proofs.OrderReading.{reads_at}

module _ (fs : List Footprint) where
  pub settled_append : (xs ys : List ℕ) → settled_of fs (xs ++ ys) ≡ settled_of fs xs ++ settled_of fs ys
  settled_append [] ys = refl
  settled_append (x ∷ xs) ys = by (settles (slice_get fs x)) (settled_append xs ys)
    where
      by : (b : Bool) → settled_of fs (xs ++ ys) ≡ settled_of fs xs ++ settled_of fs ys
          → (if b then x ∷ settled_of fs (xs ++ ys) else settled_of fs (xs ++ ys))
          ≡ (if b then x ∷ settled_of fs xs else settled_of fs xs) ++ settled_of fs ys
      by true h = ap (λ zs. x ∷ zs) h
      by false h = h

  -- a number that is left stands in the list, and is that of a driver that settles
  pub record Stood (xs : List ℕ) (i : ℕ) : Type 0 where
    pub place : ℕ
    pub at : slice_get xs place ≡ Some i
    pub settled : settles (slice_get fs i) ≡ true

  further : (x : ℕ) (xs : List ℕ) (i : ℕ) → Stood xs i → Stood (x ∷ xs) i
  further x xs i s = record { place = suc s.place; at = s.at; settled = s.settled }

  pub stood : (xs : List ℕ) (a i : ℕ) → slice_get (settled_of fs xs) a ≡ Some i → Stood xs i
  stood [] a i e = absurd (true≢false (ap is_none e))
  stood (x ∷ xs) a i e = by (settles (slice_get fs x)) refl a e (λ b h. further x xs i (stood xs b i h))
    where
      by : (t : Bool) → settles (slice_get fs x) ≡ t → (a : ℕ)
          → slice_get (if t then x ∷ settled_of fs xs else settled_of fs xs) a ≡ Some i
          → ((b : ℕ) → slice_get (settled_of fs xs) b ≡ Some i → Stood (x ∷ xs) i) → Stood (x ∷ xs) i
      by true h zero e f =
          let same : x ≡ i = same_Some x i e in
          record { place = zero; at = ap Some same; settled = ap (λ y. settles (slice_get fs y)) (sym same) ∙ h }
      by true h (suc a) e f = f a e
      by false h a e f = f a e

  -- of two that are left the first one stands before the second
  pub record Rise (xs : List ℕ) (i j : ℕ) : Type 0 where
    pub low : ℕ
    pub high : ℕ
    pub below : slice_get xs low ≡ Some i
    pub above : slice_get xs high ≡ Some j
    pub less : low < high

  shifted : (x : ℕ) (xs : List ℕ) (i j : ℕ) → Rise xs i j → Rise (x ∷ xs) i j
  shifted x xs i j r =
      record { low = suc r.low; high = suc r.high; below = r.below; above = r.above; less = omega (arith, r.less) }

  pub rises : (xs : List ℕ) (a b i j : ℕ) → slice_get (settled_of fs xs) a ≡ Some i
      → slice_get (settled_of fs xs) b ≡ Some j → a < b → Rise xs i j
  rises [] a b i j e f less = absurd (true≢false (ap is_none e))
  rises (x ∷ xs) a b i j e f less =
      by (settles (slice_get fs x)) a b e f less (λ c d h k l. shifted x xs i j (rises xs c d i j h k l))
      (λ d k. stood xs d j k)
    where
      by : (t : Bool) (a b : ℕ) → slice_get (if t then x ∷ settled_of fs xs else settled_of fs xs) a ≡ Some i
          → slice_get (if t then x ∷ settled_of fs xs else settled_of fs xs) b ≡ Some j → a < b
          → ((c d : ℕ) → slice_get (settled_of fs xs) c ≡ Some i → slice_get (settled_of fs xs) d ≡ Some j → c < d
          → Rise (x ∷ xs) i j)
          → ((d : ℕ) → slice_get (settled_of fs xs) d ≡ Some j → Stood xs j) → Rise (x ∷ xs) i j
      by true zero zero e f less g h = absurd (omega (arith, less))
      by true zero (suc b) e f less g h =
          let s = h b f in record { low = zero; high = suc s.place; below = e; above = s.at; less = omega arith }
      by true (suc a) zero e f less g h = absurd (omega (arith, less))
      by true (suc a) (suc b) e f less g h = g a b e f (omega (arith, less))
      by false a b e f less g h = g a b e f less

  pub left_there : (xs : List ℕ) (i : ℕ) → has_node xs i ≡ true → settles (slice_get fs i) ≡ true
      → has_number (settled_of fs xs) i ≡ true
  left_there [] i h s = absurd (true≢false (sym h))
  left_there (x ∷ xs) i h s = by (settles (slice_get fs x)) refl (λ k. left_there xs i k s)
    where
      by : (t : Bool) → settles (slice_get fs x) ≡ t
          → (has_node xs i ≡ true → has_number (settled_of fs xs) i ≡ true)
          → has_number (if t then x ∷ settled_of fs xs else settled_of fs xs) i ≡ true
      by true e f =
          or_case (i == x) (has_node xs i) (or_left (i == x) (has_number (settled_of fs xs) i))
          (λ k. or_right (i == x) (has_number (settled_of fs xs) i) (f k)) h
      by false e f =
          or_case (i == x) (has_node xs i) (λ k.
          let same : x ≡ i = grind (arith, nat_tests, k) in
          absurd (true≢false (sym s ∙ ap (λ y. settles (slice_get fs y)) (sym same) ∙ e))) f h

not_not : (b : Bool) → not b ≡ true → b ≡ false
not_not true h = sym h
not_not false h = refl

module _ (ds : List Decl) (groups : Groups) (fs : List Footprint) (drivers : List Driver)
    (w : AreFootprintsOf ds groups fs drivers) where
  settled_same : (i : ℕ) → settles (slice_get fs i) ≡ is_settled (slice_get drivers i)
  settled_same i = by (slice_get fs i) (slice_get drivers i) refl refl
    where
      by : (o : Option Footprint) (p : Option Driver) → slice_get fs i ≡ o → slice_get drivers i ≡ p
          → settles o ≡ is_settled p
      by None None e f = refl
      by (Some x) (Some y) e f = ap not (w.each i x y e f).clocked
      by None (Some y) e f =
          let less = get_less drivers i y f in
          let r = get_some fs i (omega (arith, less, w.size)) in absurd (true≢false (ap is_none (sym e ∙ r.1)))
      by (Some x) None e f =
          let less = get_less fs i x e in
          let r = get_some drivers i (omega (arith, less, w.size)) in absurd (true≢false (ap is_none (sym f ∙ r.1)))

  settled_less : (i : ℕ) (p : Option Driver) → slice_get drivers i ≡ p → is_settled p ≡ true → i < length fs
  settled_less i None e h = absurd (true≢false (sym h))
  settled_less i (Some x) e h = let less = get_less drivers i x e in omega (arith, less, w.size)

  pub sequence : (g : List (List ℕ)) (order : List ℕ) → IsReadingGraph groups fs g → IsOrder g order
      → IsSequence ds drivers (settled_of fs order)
  sequence g order graph o = record {
    only = λ a i e. sym (settled_same i) ∙ (stood fs order a i e).settled;
    all = λ i h.
        let less = settled_less i (slice_get drivers i) refl h in
        left_there fs order i (o.all i (omega (arith, less, graph.size))) (settled_same i ∙ h);
    once = λ a b i e f. once a b i e f (cases_order a b);
    behind = λ a b i j x y e f h k r. behind a b i j x y e f h k r (cases_order a b);
  }
    where
      once : (a b i : ℕ) → slice_get (settled_of fs order) a ≡ Some i → slice_get (settled_of fs order) b ≡ Some i
          → (a ≡ b) ⊎ ((a < b) ⊎ (b < a)) → a ≡ b
      once a b i e f (inl same) = same
      once a b i e f (inr (inl less)) =
          let r = rises fs order a b i i e f less in
          let same = o.once r.low r.high i r.below r.above in absurd (omega (arith, same, r.less))
      once a b i e f (inr (inr more)) =
          let r = rises fs order b a i i f e more in
          let same = o.once r.low r.high i r.below r.above in absurd (omega (arith, same, r.less))

      unclocked : (a i : ℕ) (x : Driver) → slice_get (settled_of fs order) a ≡ Some i → slice_get drivers i ≡ Some x
          → is_clocked x.what ≡ false
      unclocked a i x e h =
          not_not (is_clocked x.what)
          (sym (ap is_settled h) ∙ sym (settled_same i) ∙ (stood fs order a i e).settled)

      behind : (a b i j : ℕ) (x y : Driver) → slice_get (settled_of fs order) a ≡ Some i
          → slice_get (settled_of fs order) b ≡ Some j → slice_get drivers i ≡ Some x → slice_get drivers j ≡ Some y
          → ReadsFrom ds x y → (a ≡ b) ⊎ ((a < b) ⊎ (b < a)) → b < a
      behind a b i j x y e f h k r (inl same) =
          let lead = graph.all i j (reads_at ds groups fs drivers w i j x y h k (unclocked a i x e h)
          (unclocked b j y f k) r) in
          let s = stood fs order a i e in
          let one : i ≡ j = same_Some i j (sym e ∙ ap (slice_get (settled_of fs order)) same ∙ f) in
          let less = o.behind s.place s.place i j s.at (s.at ∙ ap Some one) lead in absurd (omega (arith, less))
      behind a b i j x y e f h k r (inr (inl less)) =
          let lead = graph.all i j (reads_at ds groups fs drivers w i j x y h k (unclocked a i x e h)
          (unclocked b j y f k) r) in
          let s = rises fs order a b i j e f less in
          let back = o.behind s.low s.high i j s.below s.above lead in absurd (omega (arith, back, s.less))
      behind a b i j x y e f h k r (inr (inr more)) = more

pub order_numbers : (groups : Groups) (fs : List Footprint) (g : List (List ℕ)) (order : List ℕ)
    → IsReadingGraph groups fs g → IsOrder g order → AreNumbers (length fs) order
order_numbers groups fs g order graph o k n e = let less = o.only k n e in omega (arith, less, graph.size)

-- ---- one number more

module _ (fs : List Footprint) (n : ℕ) (f : Footprint) (at : slice_get fs n ≡ Some f) where
  pub not_kept : (xs : List ℕ) → f.is_clocked ≡ true → xs ≡ xs ++ settled_of fs (n ∷ [])
  not_kept xs clocked =
      sym (append-nil xs)
      ∙ ap (λ b. xs ++ (if b then n ∷ [] else [])) (sym (ap settles at ∙ ap not clocked))

  pub is_kept : (xs more : List ℕ) → f.is_clocked ≡ false → more ≡ xs ++ n ∷ [] → more ≡ xs ++ settled_of fs (n ∷ [])
  is_kept xs more settled e =
      e ∙ ap (λ b. xs ++ (if b then n ∷ [] else [])) (sym (ap settles at ∙ ap not settled))

pub settled_more : (fs : List Footprint) (xs : List ℕ) (at : ℕ) (kept more : List ℕ) → at < length xs
    → kept ≡ settled_of fs (take at xs) → more ≡ kept ++ settled_of fs (get_or xs at 0 ∷ [])
    → more ≡ settled_of fs (take (at + 1) xs)
settled_more fs xs at kept more less were e =
    e ∙ ap (λ ys. ys ++ settled_of fs (get_or xs at 0 ∷ [])) were
    ∙ sym (settled_append fs (take at xs) (get_or xs at 0 ∷ []))
    ∙ ap (settled_of fs) (sym (take_more xs at 0 less))
