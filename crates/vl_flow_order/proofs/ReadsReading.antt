-- What each turn over drivers, visits and readers adds to the graph of who reads from whom.
use Rattle.std.specs.Prelude.{◌≡◌, refl, ℕ, ◌+◌, ◌<◌, ◌≤◌, List, length, true}
use Rattle.std.specs.Prelude.{false, ◌&&◌}
use Rattle.std.specs.Prelude.{Some, None, slice_get}
use Rattle.std.proofs.Common.{ap, sym, ◌∙◌, subst, arith, get_or, true≢false, ◌⊎◌, inl, inr}
use Rattle.std.proofs.lemmas.Bool.{and_from}
use Rattle.std.proofs.lemmas.Option.{same_Some, slice_get-get_or}
use Rattle.fv_bit_sets.specs.declared.step.Step.{Step}
use Rattle.fv_bit_sets.specs.Cells.{has}
use Rattle.fv_graph.specs.Graph.{Leads, targets}
use Rattle.fv_graph.proofs.Lists.{get_less}
use Rattle.fv_graph.proofs.Moves.{same_or_not}
use Rattle.fv_graph.proofs.Rows.{row_at}
use Rattle.vl_flow_order.specs.declared.footprint.Footprint.{Footprint}
use Rattle.vl_flow_order.specs.declared.reads_groups.Groups.{Groups}
use Rattle.vl_flow_order.specs.declared.visit.Visit.{Visit}
use Rattle.vl_flow_order.specs.Buckets.{AreBuckets}
use Rattle.vl_flow_order.specs.Edges.{HasNoEdges, AddsEdge}
use Rattle.vl_flow_order.specs.Reads.{AddsRead, AddsReader, AddsRow, AddsVisits, AreReaders, Drives, DrivesInGroup}
use Rattle.vl_flow_order.specs.Reads.{ReadsAt}
use Rattle.vl_flow_order.specs.Reads.{IsReadingGraph}
use Rattle.vl_flow_order.specs.Visits.{AreVisits, AreWithin}
use Rattle.vl_flow_order.proofs.Growing.{grows_none, grows_edge, grows_then, grows_as}

module _ (i : ℕ) (needs : List Step) (xs : List Footprint) where
  -- ---- one driver

  abbrev Reading : ℕ → Visit → ℕ → ℕ → Type 0
  Reading j v a b = (a ≡ i) × (b ≡ j) × Drives needs xs v b

  pub read_apart : (g : List (List ℕ)) (j : ℕ) (y : Footprint) (v : Visit) → slice_get xs j ≡ Some y
      → ((cell bit : ℕ) → v.first ≤ cell → cell < v.past → (has needs cell bit && has y.drives cell bit) ≡ false)
      → AddsRead i needs xs j v g g
  read_apart g j y v at none = record {
    grows = grows_none (Reading j v) g;
    all = λ z cell bit is from before needed driven.
        let one : z ≡ y = same_Some z y (sym is ∙ at) in
        absurd (true≢false (sym (and_from (has needs cell bit) (has y.drives cell bit) needed
        (ap (λ w. has w.drives cell bit) (sym one) ∙ driven)) ∙ none cell bit from before));
  }

  pub read_met : (g more : List (List ℕ)) (j : ℕ) (y : Footprint) (v : Visit) (cell bit : ℕ)
      → slice_get xs j ≡ Some y → v.first ≤ cell → cell < v.past → has needs cell bit ≡ true → has y.drives cell bit ≡ true → AddsEdge g i j more
      → AddsRead i needs xs j v g more
  read_met g more j y v cell bit at from before needed driven e = record {
    grows = grows_edge (Reading j v) g more i j e (
      refl,
      refl,
      record {
        driver = y;
        is = at;
        cell = cell;
        bit = bit;
        from = from;
        before = before;
        needed = needed;
        driven = driven;
      },
    );
    all = λ z c k is first past read written. e.added;
  }

  -- ---- the drivers of a group

  abbrev InRow : List ℕ → Visit → ℕ → ℕ → Type 0
  InRow row v a b = (a ≡ i) × ((m : ℕ) × (slice_get row m ≡ Some b)) × Drives needs xs v b

  pub no_driver : (g : List (List ℕ)) (drivers : List ℕ) (v : Visit) → AddsRow i needs xs drivers 0 v g g
  no_driver g drivers v = record {
    grows = grows_none (InRow drivers v) g;
    all = λ m j y cell bit less at is from before needed driven. absurd (omega (arith, less));
  }

  pub row_more : (g now more : List (List ℕ)) (row : List ℕ) (n j : ℕ) (v : Visit) → slice_get row n ≡ Some j
      → AddsRow i needs xs row n v g now → AddsRead i needs xs j v now more → AddsRow i needs xs row (n + 1) v g more
  row_more g now more row n j v at were adds = record {
    grows = grows_then (InRow row v) g now more were.grows
        (grows_as (Reading j v) (InRow row v) now more (λ a b q. (q.0, (n, at ∙ ap Some (sym q.1)), q.2)) adds.grows);
    all = λ m k y cell bit less is found from before needed driven.
        all m k y cell bit less is found from before needed driven (same_or_not m n);
  }
    where
      all : (m k : ℕ) (y : Footprint) (cell bit : ℕ) → m < n + 1 → slice_get row m ≡ Some k
          → slice_get xs k ≡ Some y → v.first ≤ cell → cell < v.past → has needs cell bit ≡ true
          → has y.drives cell bit ≡ true → (m ≡ n) ⊎ (m ≡ n → ⊥) → Leads more i k
      all m k y cell bit less is found from before needed driven (inl same) =
          let one : j ≡ k = same_Some j k (sym at ∙ ap (slice_get row) (sym same) ∙ is) in
          subst (Leads more i) one
          (adds.all y cell bit (ap (slice_get xs) one ∙ found) from before needed driven)
      all m k y cell bit less is found from before needed driven (inr other) =
          adds.grows.kept i k
          (were.all m k y cell bit (omega (arith, less, other)) is found from before needed driven)

  -- ---- the visited groups

  module _ (buckets : List (List ℕ)) where
    abbrev InGroup : List Visit → ℕ → ℕ → Type 0
    InGroup visits a b = (a ≡ i) × DrivesInGroup needs xs buckets visits b

    pub visits_none : (g : List (List ℕ)) (visits : List Visit) → AddsVisits i needs xs buckets visits 0 g g
    visits_none g visits = record {
      grows = grows_none (InGroup visits) g;
      all = λ m v j y cell bit less at lead is from before needed driven. absurd (omega (arith, less));
    }

    pub visits_more : (g now more : List (List ℕ)) (visits : List Visit) (n : ℕ) (v : Visit)
        → slice_get visits n ≡ Some v → AddsVisits i needs xs buckets visits n g now
        → AddsRow i needs xs (targets buckets v.group) (length (targets buckets v.group)) v now more
        → AddsVisits i needs xs buckets visits (n + 1) g more
    visits_more g now more visits n v at were adds = record {
      grows = grows_then (InGroup visits) g now more were.grows
          (grows_as (InRow (targets buckets v.group) v) (InGroup visits) now more (λ a b q. (
            q.0,
            record {
              place = n;
              visit = v;
              at = at;
              among = q.1;
              drives = q.2;
            },
          )) adds.grows);
      all = λ m w j y cell bit less is lead found from before needed driven.
          all m w j y cell bit less is lead found from before needed driven (same_or_not m n);
    }
      where
        all : (m : ℕ) (w : Visit) (j : ℕ) (y : Footprint) (cell bit : ℕ) → m < n + 1 → slice_get visits m ≡ Some w
            → Leads buckets w.group j → slice_get xs j ≡ Some y → w.first ≤ cell → cell < w.past
            → has needs cell bit ≡ true → has y.drives cell bit ≡ true → (m ≡ n) ⊎ (m ≡ n → ⊥) → Leads more i j
        all m w j y cell bit less is lead found from before needed driven (inl same) =
            let one : w ≡ v = same_Some w v (sym is ∙ ap (slice_get visits) same ∙ at) in
            let inside : Leads buckets v.group j = subst (λ z. Leads buckets z.group j) one lead in
            adds.all inside.0 j y cell bit (get_less (targets buckets v.group) inside.0 j inside.1) inside.1 found
            (subst (λ z. z.first ≤ cell) one from) (subst (λ z. cell < z.past) one before) needed driven
        all m w j y cell bit less is lead found from before needed driven (inr other) =
            adds.grows.kept i j
            (were.all m w j y cell bit (omega (arith, less, other)) is lead found from before needed driven)

-- ---- a reader

module _ (groups : Groups) (xs : List Footprint) where
  pub reader_clocked : (g : List (List ℕ)) (i : ℕ) (x : Footprint) → slice_get xs i ≡ Some x → x.is_clocked ≡ true
      → AddsReader groups xs i g g
  reader_clocked g i x at clocked = record {
    grows = grows_none (λ a b. (a ≡ i) × ReadsAt groups xs a b) g;
    all = λ j r.
        let one : r.reader ≡ x = same_Some r.reader x (sym r.reader_is ∙ at) in
        absurd (true≢false (sym (ap (λ z. z.is_clocked) one ∙ clocked) ∙ r.settled));
  }

  pub reader_settled : (g more : List (List ℕ)) (i : ℕ) (x : Footprint) (buckets : List (List ℕ))
      (visits : List Visit) → slice_get xs i ≡ Some x → x.is_clocked ≡ false
      → AreBuckets groups xs (length xs) buckets → AreVisits groups x.needs visits None
      → AddsVisits i x.needs xs buckets visits (length visits) g more → AddsReader groups xs i g more
  reader_settled g more i x buckets visits at settled bs are adds = record {
    grows = grows_as (λ a b. (a ≡ i) × DrivesInGroup x.needs xs buckets visits b)
        (λ a b. (a ≡ i) × ReadsAt groups xs a b) g more (λ a b q. (q.0, reads a b q.0 q.1)) adds.grows;
    all = all;
  }
    where
      -- a cell before the group's end has the group
      here : (m : ℕ) (v : Visit) (cell : ℕ) → slice_get visits m ≡ Some v → v.first ≤ cell → cell < v.past
          → slice_get groups.of_cells cell ≡ Some v.group
      here m v cell is from before =
          let stands = are.each m v is in
          groups.kept.same v.first cell v.group v.past stands.group stands.past from before

      reads : (a b : ℕ) → a ≡ i → DrivesInGroup x.needs xs buckets visits b → ReadsAt groups xs a b
      reads a b same g =
          let d = g.drives in
          let known = bs.sound g.visit.group b g.among in
          let one : known.0 ≡ d.driver = same_Some known.0 d.driver (sym known.1 ∙ d.is) in record {
            reader = x;
            driver = d.driver;
            reader_is = ap (slice_get xs) same ∙ at;
            driver_is = d.is;
            settled = settled;
            assigning = ap (λ z. z.is_clocked) (sym one) ∙ known.2;
            cell = d.cell;
            bit = d.bit;
            known = get_less groups.of_cells d.cell g.visit.group (here g.place g.visit d.cell g.at d.from d.before);
            needed = d.needed;
            driven = d.driven;
          }

      all : (j : ℕ) → ReadsAt groups xs i j → Leads more i j
      all j r =
          let one : r.reader ≡ x = same_Some r.reader x (sym r.reader_is ∙ at) in
          let needed : has x.needs r.cell r.bit ≡ true = ap (λ z. has z.needs r.cell r.bit) (sym one) ∙ r.needed in
          let v = are.all r.cell r.bit tt r.known needed in
          let lead = bs.all j r.driver r.cell r.bit v.1.group (get_less xs j r.driver r.driver_is) r.driver_is
          r.assigning (here v.0 v.1 r.cell v.2 v.3 v.4) r.driven in
          adds.all v.0 v.1 j r.driver r.cell r.bit (get_less visits v.0 v.1 v.2) v.2 lead r.driver_is v.3 v.4
          needed r.driven

  -- ---- all readers

  pub no_readers : (g : List (List ℕ)) → HasNoEdges (length xs) g → AreReaders groups xs 0 g
  no_readers g none = record {
    size = none.size;
    sound = λ i j lead. absurd (none.none i j lead);
    all = λ i j less r. absurd (omega (arith, less));
  }

  pub one_reader_more : (g more : List (List ℕ)) (n : ℕ) → AreReaders groups xs n g → AddsReader groups xs n g more
      → AreReaders groups xs (n + 1) more
  one_reader_more g more n were adds = record {
    size = adds.grows.size ∙ were.size;
    sound = λ i j lead. sound i j (adds.grows.only i j lead);
    all = λ i j less r. all i j less r (same_or_not i n);
  }
    where
      sound : (i j : ℕ) → Leads g i j ⊎ ((i ≡ n) × ReadsAt groups xs i j) → ReadsAt groups xs i j
      sound i j (inl lead) = were.sound i j lead
      sound i j (inr q) = q.1

      all : (i j : ℕ) → i < n + 1 → ReadsAt groups xs i j → (i ≡ n) ⊎ (i ≡ n → ⊥) → Leads more i j
      all i j less r (inl same) =
          subst (λ a. Leads more a j) (sym same) (adds.all j (subst (λ a. ReadsAt groups xs a j) same r))
      all i j less r (inr other) = adds.grows.kept i j (were.all i j (omega (arith, less, other)) r)

  pub all_readers : (g : List (List ℕ)) (n : ℕ) → length xs ≤ n → AreReaders groups xs n g
      → IsReadingGraph groups xs g
  all_readers g n past were = record {
    size = were.size;
    sound = were.sound;
    all = λ i j r. let less = get_less xs i r.reader r.reader_is in were.all i j (omega (arith, less, past)) r;
  }

-- one visited group more, in the words of the loop
pub visits_turn : (i : ℕ) (needs : List Step) (xs : List Footprint) (buckets g now more : List (List ℕ))
    (visits : List Visit) (n : ℕ) (d : Visit) (row found : List ℕ) → n < length visits
    → AreWithin (length buckets) visits → row ≡ get_or buckets (get_or visits n d).group row → found ≡ row
    → AddsVisits i needs xs buckets visits n g now
    → AddsRow i needs xs found (length found) (get_or visits n d) now more
    → AddsVisits i needs xs buckets visits (n + 1) g more
visits_turn i needs xs buckets g now more visits n d row found less within e f were adds =
    let v = get_or visits n d in
    let at = slice_get-get_or visits n d less in
    visits_more i needs xs buckets g now more visits n v at were
    (subst (λ r. AddsRow i needs xs r (length r) v now more) (f ∙ sym (row_at buckets v.group row (within n v at) e))
    adds)
