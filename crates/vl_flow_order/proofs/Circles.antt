-- A circle of numbers, as a loop of drivers.
use Rattle.std.specs.Prelude.{◌≡◌, refl, ℕ, zero, suc, ◌<◌, List, [], ◌∷◌, length, false, All}
use Rattle.std.specs.Prelude.{Some, is_none, slice_get}
use Rattle.std.proofs.Common.{ap, sym, ◌∙◌, arith, subst, true≢false}
use Rattle.std.proofs.lemmas.List.Elements.{All-nil, All-cons}
use Rattle.std.proofs.lemmas.Option.{same_Some}
use Rattle.vl_size.specs.declared.decl.Decl.{Decl}
use Rattle.vl_size.specs.Places.{is_earlier}
use Rattle.fv_text.specs.declared.pos.Pos.{Pos}
use Rattle.vl_mean.specs.declared.driver.Driver.{Driver}
use Rattle.vl_mean.specs.Runs.{FollowedBy}
use Rattle.vl_flow_spec.specs.Drivers.{is_clocked}
use Rattle.vl_flow_spec.specs.Refusals.{IsLoop, ReadsFrom, StandAt, last_of}
use Rattle.vl_flow_cells.proofs.Lists.{get_less, get_some}
use Rattle.fv_graph.specs.Graph.{IsChain, IsCircle, IsSimpleCircle, Leads, StandOnce, last_node}
use Rattle.vl_flow_order.specs.declared.footprint.Footprint.{Footprint}
use Rattle.vl_flow_order.specs.declared.reads_groups.Groups.{Groups}
use Rattle.vl_flow_order.specs.Reads.{IsReadingGraph}
use Rattle.vl_flow_order.specs.Footprints.{AreFootprintsOf}
use Rattle.vl_flow_order.specs.Numbers.{AreNumbers, IsTurned, numbered, places, with_driver}
use Rattle.vl_flow_order.proofs.OrderReading.{driver_at, reads_from, reader_settled}
use Rattle.vl_flow_order.proofs.Turns.{turned_first, turned_from}

-- ---- numbers of a circle

chain_numbers : (g : List (List ℕ)) (count i : ℕ) (is : List ℕ) → ((a b : ℕ) → Leads g a b → b < count)
    → IsChain g i is → AreNumbers count is
chain_numbers g count i [] f chain k n e = absurd (true≢false (ap is_none e))
chain_numbers g count i (j ∷ js) f chain zero n e =
    let less = f i j chain.0 in omega (arith, less, same_Some j n e)
chain_numbers g count i (j ∷ js) f chain (suc k) n e = chain_numbers g count j js f chain.1 k n e

pub circle_numbers : (groups : Groups) (fs : List Footprint) (g : List (List ℕ)) (circle : List ℕ)
    → IsReadingGraph groups fs g → IsCircle g circle → AreNumbers (length fs) circle
circle_numbers groups fs g [] w c k n e = absurd c
circle_numbers groups fs g (i ∷ is) w c zero n e =
    let r = w.sound (last_node i is) i c.1 in
    let less = get_less fs i r.driver r.driver_is in omega (arith, less, same_Some i n e)
circle_numbers groups fs g (i ∷ is) w c (suc k) n e =
    chain_numbers g (length fs) i is
    (λ a b lead. let r = w.sound a b lead in get_less fs b r.driver r.driver_is) c.0 k n e

pub circle_some : (g : List (List ℕ)) (circle : List ℕ) → IsCircle g circle → 0 < length circle
circle_some g [] c = absurd c
circle_some g (i ∷ is) c = omega arith

-- ---- drivers of a circle

module _ (ds : List Decl) (groups : Groups) (fs : List Footprint) (drivers : List Driver)
    (w : AreFootprintsOf ds groups fs drivers) (g : List (List ℕ)) (graph : IsReadingGraph groups fs g) where
  abbrev pub Settled : Driver → Type 0
  Settled x = is_clocked x.what ≡ false

  -- drivers that read on, from the first to one behind the last
  pub record ReadsOn (x : Driver) (xs : List Driver) (z : Driver) : Type 0 where
    pub settled : All Settled (x ∷ xs)
    pub reads : FollowedBy (ReadsFrom ds) x xs
    pub closed : ReadsFrom ds (last_of ds x xs) z

  pub reads_on : (i : ℕ) (x : Driver) → slice_get drivers i ≡ Some x → (is : List ℕ) → IsChain g i is
      → (t : ℕ) (z : Driver) → slice_get drivers t ≡ Some z → Leads g (last_node i is) t
      → ReadsOn x (numbered drivers is) z
  reads_on i x e [] chain t z h lead =
      let r = graph.sound i t lead in record {
        settled = All-cons Settled x [] (reader_settled ds groups fs drivers w i t x e r) (All-nil Settled);
        reads = tt;
        closed = reads_from ds groups fs drivers w i t x z e h r;
      }
  reads_on i x e (j ∷ js) chain t z h lead =
      let r = graph.sound i j chain.0 in
      let y = driver_at ds groups fs drivers w j r.driver r.driver_is in
      let more = reads_on j y.0 y.1 js chain.1 t z h lead in
      let all = numbered drivers js in
      let made : ReadsOn x (y.0 ∷ all) z = record {
        settled = All-cons Settled x (y.0 ∷ all) (reader_settled ds groups fs drivers w i j x e r) more.settled;
        reads = (reads_from ds groups fs drivers w i j x y.0 e y.1 r, more.reads);
        closed = more.closed;
      } in
      subst (λ o. ReadsOn x (with_driver o all) z) (sym y.1) made

  -- what holds of each driver of the numbers
  pub each_numbered : (P : Driver → Type 0) (is : List ℕ)
      → ((k n : ℕ) (x : Driver) → slice_get is k ≡ Some n → slice_get drivers n ≡ Some x → P x)
      → AreNumbers (length drivers) is → All P (numbered drivers is)
  each_numbered P [] f known = All-nil P
  each_numbered P (i ∷ is) f known =
      let x = get_some drivers i (known 0 i refl) in
      let more = each_numbered P is (λ k n y e h. f (suc k) n y e h) (λ k n e. known (suc k) n e) in
      subst (λ o. All P (with_driver o (numbered drivers is))) (sym x.1)
      (All-cons P x.0 (numbered drivers is) (f 0 i x.0 refl x.1) more)

  numbered_stand : (is : List ℕ) → AreNumbers (length drivers) is → StandAt drivers is (numbered drivers is)
  numbered_stand [] known = tt
  numbered_stand (i ∷ is) known =
      let x = get_some drivers i (known 0 i refl) in
      let more = numbered_stand is (λ k n e. known (suc k) n e) in
      subst (λ o. StandAt drivers (i ∷ is) (with_driver o (numbered drivers is))) (sym x.1) (x.1, more)

  pub looped : (circle turned : List ℕ) → AreNumbers (length drivers) circle → IsTurned drivers circle turned
      → IsCircle g turned → StandOnce turned
      → (first : Driver) × (others : List Driver) × IsLoop ds drivers first others
      × (places (numbered drivers turned) ≡ places (first ∷ others))
  looped circle [] known t c once = absurd c
  looped circle (i ∷ is) known t c once = (
    x.0,
    numbered drivers is,
    record {
      numbers = i ∷ is;
      among = (x.1, numbered_stand is (λ k n e. in_range (suc k) n e));
      once = once;
      settled = on.settled;
      reads = on.reads;
      closed = on.closed;
      earliest = each_numbered (λ z. is_earlier z.pos x.0.pos ≡ false) is late (λ k n e. in_range (suc k) n e);
    },
    ap (λ o. places (with_driver o (numbered drivers is))) x.1,
  )
    where
      old : (n : ℕ) × (slice_get circle t.at ≡ Some n)
      old = get_some circle t.at t.within

      head : i ≡ old.0
      head = same_Some i old.0 (ap (λ xs. slice_get xs 0) t.parts ∙ turned_first circle t.at old.0 old.1)

      inside : (k n : ℕ) → slice_get (i ∷ is) k ≡ Some n → (m : ℕ) × (slice_get circle m ≡ Some n)
      inside k n e = turned_from circle t.at k n (sym (ap (λ xs. slice_get xs k) t.parts) ∙ e)

      in_range : (k n : ℕ) → slice_get (i ∷ is) k ≡ Some n → n < length drivers
      in_range k n e = let m = inside k n e in known m.0 n m.1

      x : (z : Driver) × (slice_get drivers i ≡ Some z)
      x = get_some drivers i (in_range 0 i refl)

      on : ReadsOn x.0 (numbered drivers is) x.0
      on = reads_on i x.0 x.1 is c.0 i x.0 x.1 c.1

      late : (k n : ℕ) (z : Driver) → slice_get is k ≡ Some n → slice_get drivers n ≡ Some z
          → is_earlier z.pos x.0.pos ≡ false
      late k n z e h =
          let m = inside (suc k) n e in
          t.earliest m.0 n old.0 z x.0 (get_less circle m.0 n m.1) m.1 h old.1
          (ap (slice_get drivers) (sym head) ∙ x.1)

  pub found_loop : (circle turned : List ℕ) (ps : List Pos) → IsSimpleCircle g circle
      → IsTurned drivers circle turned
      → ((graph : List (List ℕ)) → IsCircle graph circle → IsCircle graph turned)
      → (StandOnce circle → StandOnce turned)
      → ps ≡ places (numbered drivers turned) → length fs ≡ length drivers
      → (first : Driver) × (others : List Driver) × IsLoop ds drivers first others × (ps ≡ places (first ∷ others))
  found_loop circle turned ps c t closed once e size =
      let numbers = circle_numbers groups fs g circle graph c.0 in
      let r = looped circle turned (subst (λ n. AreNumbers n circle) size numbers) t (closed g c.0)
      (once c.1) in
      (r.0, r.1, r.2, e ∙ r.3)
