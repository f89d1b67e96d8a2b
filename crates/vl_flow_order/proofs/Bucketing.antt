-- What each turn over visits and drivers adds to the buckets.
use Rattle.std.specs.Prelude.{◌≡◌, refl, ℕ, ◌+◌, ◌<◌, List, [], ◌∷◌}
use Rattle.std.specs.Prelude.{◌++◌, length, true, false}
use Rattle.std.specs.Prelude.{Option, Some, None, is_none, slice_get}
use Rattle.std.proofs.Common.{ap, sym, ◌∙◌, subst, arith, get_or, true≢false, ◌⊎◌, inl, inr}
use Rattle.std.proofs.lemmas.Option.{same_Some, slice_get-get_or}
use Rattle.fv_bit_sets.specs.Cells.{has}
use Rattle.fv_graph.specs.Graph.{or_empty, targets, Leads}
use Rattle.fv_graph.proofs.Lists.{get_cases, get_less}
use Rattle.fv_graph.proofs.Moves.{same_or_not}
use Rattle.fv_graph.proofs.Rows.{row_at}
use Rattle.fv_bit_sets.specs.declared.step.Step.{Step}
use Rattle.vl_flow_order.specs.declared.footprint.Footprint.{Footprint}
use Rattle.vl_flow_order.specs.declared.reads_groups.Groups.{Groups}
use Rattle.vl_flow_order.specs.declared.visit.Visit.{Visit}
use Rattle.vl_flow_order.specs.Edges.{HasNoEdges, AddsEdge}
use Rattle.vl_flow_order.specs.Visits.{AreVisits, AreWithin}
use Rattle.vl_flow_order.specs.Buckets.{AddsDriver, AddsSettled, AreBuckets}
use Rattle.vl_flow_order.proofs.Growing.{grows_none, grows_edge, grows_then, grows_as}

-- ---- rows without a target

abbrev pub NoEdges : List (List ℕ) → Type 0
NoEdges g = (i j : ℕ) → Leads g i j → ⊥

pub no_rows : (g : List (List ℕ)) → g ≡ [] → NoEdges g
no_rows g e i j lead =
    absurd (true≢false (ap is_none (ap (λ h. slice_get (targets h i) lead.0) (sym e) ∙ lead.1)))

pub one_row_more : (g more : List (List ℕ)) → NoEdges g → more ≡ g ++ [] ∷ [] → NoEdges more
one_row_more g more were e i j lead = none lead.0 (ap (λ h. slice_get (targets h i) lead.0) (sym e) ∙ lead.1)
  where
    row : (k : ℕ) (o : List ℕ) → slice_get (g ++ [] ∷ []) i ≡ Some o → slice_get o k ≡ Some j → ⊥
    row k o at found = by (get_cases g [] i o at)
      where
        by : (slice_get g i ≡ Some o) ⊎ ((i ≡ length g) × ([] ≡ o)) → ⊥
        by (inl h) = were i j (k, ap (λ x. slice_get (or_empty x) k) h ∙ found)
        by (inr h) = absurd (true≢false (ap is_none (ap (λ x. slice_get x k) h.1 ∙ found)))

    case : (k : ℕ) (o : Option (List ℕ)) → slice_get (g ++ [] ∷ []) i ≡ o → slice_get (or_empty o) k ≡ Some j → ⊥
    case k None at found = absurd (true≢false (ap is_none found))
    case k (Some o) at found = row k o at found

    none : (k : ℕ) → slice_get (targets (g ++ [] ∷ []) i) k ≡ Some j → ⊥
    none k found = case k (slice_get (g ++ [] ∷ []) i) refl found

-- ---- a driver in the groups that it drives

pub adds_none : (g : List (List ℕ)) (visits : List Visit) (j : ℕ) → AddsDriver g visits 0 j g
adds_none g visits j = record {
  grows = grows_none (λ a b. b ≡ j) g;
  all = λ m v less at. absurd (omega (arith, less));
}

pub adds_one : (g now more : List (List ℕ)) (visits : List Visit) (n j : ℕ) (d : Visit) → n < length visits
    → AddsDriver g visits n j now → AddsEdge now (get_or visits n d).group j more
    → AddsDriver g visits (n + 1) j more
adds_one g now more visits n j d less were e = record {
  grows = grows_then (λ a b. b ≡ j) g now more were.grows
      (grows_edge (λ a b. b ≡ j) now more (get_or visits n d).group j e refl);
  all = λ m v below at. all m v below at (same_or_not m n);
}
  where
    all : (m : ℕ) (v : Visit) → m < n + 1 → slice_get visits m ≡ Some v → (m ≡ n) ⊎ (m ≡ n → ⊥)
        → Leads more v.group j
    all m v below at (inl same) =
        let is : get_or visits n d ≡ v =
        same_Some (get_or visits n d) v
        (sym (slice_get-get_or visits n d less) ∙ ap (slice_get visits) (sym same) ∙ at) in
        subst (λ x. Leads more x.group j) is e.added
    all m v below at (inr other) = e.kept v.group j (were.all m v (omega (arith, below, other)) at)

-- the visits of what it drives cover each of its bits
pub adds_settled : (groups : Groups) (x : Footprint) (j : ℕ) (g more : List (List ℕ)) (visits : List Visit)
    → x.is_clocked ≡ false → AreVisits groups x.drives visits None
    → AddsDriver g visits (length visits) j more → AddsSettled groups x j g more
adds_settled groups x j g more visits unclocked are adds = record {
  grows = grows_as (λ a b. b ≡ j) (λ a b. (b ≡ j) × (x.is_clocked ≡ false)) g more (λ a b e. (e, unclocked)) adds.grows;
  all = λ cell bit group settled at set.
      let r = are.all cell bit tt (get_less groups.of_cells cell group at) set in
      let stands = are.each r.0 r.1 r.2 in
      let here = groups.kept.same r.1.first cell r.1.group r.1.past stands.group stands.past r.3 r.4 in
      subst (λ k. Leads more k j) (same_Some r.1.group group (sym here ∙ at))
      (adds.all r.0 r.1 (get_less visits r.0 r.1 r.2) r.2);
}

pub adds_clocked : (groups : Groups) (x : Footprint) (j : ℕ) (g : List (List ℕ)) → x.is_clocked ≡ true
    → AddsSettled groups x j g g
adds_clocked groups x j g clocked = record {
  grows = grows_none (λ a b. (b ≡ j) × (x.is_clocked ≡ false)) g;
  all = λ cell bit group settled at set. absurd (true≢false (sym clocked ∙ settled));
}

-- ---- all drivers

pub no_buckets : (groups : Groups) (xs : List Footprint) (g : List (List ℕ)) → HasNoEdges (length groups.ends) g
    → AreBuckets groups xs 0 g
no_buckets groups xs g none = record {
  size = none.size;
  sound = λ group j lead. absurd (none.none group j lead);
  all = λ j y cell bit group less at settled inside set. absurd (omega (arith, less));
}

pub one_bucket_more : (groups : Groups) (xs : List Footprint) (n : ℕ) (x : Footprint) (g more : List (List ℕ))
    → slice_get xs n ≡ Some x → AreBuckets groups xs n g → AddsSettled groups x n g more
    → AreBuckets groups xs (n + 1) more
one_bucket_more groups xs n x g more at were adds = record {
  size = adds.grows.size ∙ were.size;
  sound = λ group j lead. sound group j (adds.grows.only group j lead);
  all = λ j y cell bit group less is settled inside set.
      all j y cell bit group less is settled inside set (same_or_not j n);
}
  where
    sound : (group j : ℕ) → Leads g group j ⊎ ((j ≡ n) × (x.is_clocked ≡ false))
        → (y : Footprint) × (slice_get xs j ≡ Some y) × (y.is_clocked ≡ false)
    sound group j (inl lead) = were.sound group j lead
    sound group j (inr q) = (x, ap (slice_get xs) q.0 ∙ at, q.1)

    all : (j : ℕ) (y : Footprint) (cell bit group : ℕ) → j < n + 1 → slice_get xs j ≡ Some y
        → y.is_clocked ≡ false → slice_get groups.of_cells cell ≡ Some group → has y.drives cell bit ≡ true
        → (j ≡ n) ⊎ (j ≡ n → ⊥) → Leads more group j
    all j y cell bit group less is settled inside set (inl same) =
        let one : x ≡ y = same_Some x y (sym at ∙ ap (slice_get xs) (sym same) ∙ is) in
        subst (Leads more group) (sym same)
        (adds.all cell bit group (ap (λ z. z.is_clocked) one ∙ settled) inside
        (ap (λ z. has z.drives cell bit) one ∙ set))
    all j y cell bit group less is settled inside set (inr other) =
        adds.grows.kept group j (were.all j y cell bit group (omega (arith, less, other)) is settled inside set)

-- ---- visited groups are among the buckets

pub visits_within : (groups : Groups) (bits : List Step) (visits found : List Visit) (n : ℕ)
    → AreVisits groups bits visits None → found ≡ visits → n ≡ length groups.ends → AreWithin n found
visits_within groups bits visits found n are e size m v at =
    let stands = are.each m v (ap (λ xs. slice_get xs m) (sym e) ∙ at) in
    let less = groups.kept.known v.first v.group stands.group in omega (arith, less, size)

-- the drivers of a visited group
pub row_drivers : (xs : List Footprint) (buckets : List (List ℕ)) (visits : List Visit) (n : ℕ) (d : Visit)
    (row found : List ℕ) → n < length visits → AreWithin (length buckets) visits
    → row ≡ get_or buckets (get_or visits n d).group row → found ≡ row
    → ((group j : ℕ) → Leads buckets group j → j < length xs)
    → (m j : ℕ) → slice_get found m ≡ Some j → j < length xs
row_drivers xs buckets visits n d row found less within e f known m j at =
    let v = get_or visits n d in
    let inside = within n v (slice_get-get_or visits n d less) in
    known v.group j (m, ap (λ r. slice_get r m) (row_at buckets v.group row inside e ∙ sym f) ∙ at)
