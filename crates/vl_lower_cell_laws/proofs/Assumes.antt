-- What drivers assume over what those before them leave, they assume over the settled map.
use Rattle.std.specs.Prelude.{◌≡◌, refl, ℕ, zero, suc, ◌<◌, ◌≤◌, List, [], ◌∷◌, ◌++◌, true, All, Option}
use Rattle.std.specs.Prelude.{Some, None, is_none, slice_get, ◌==◌}
use Rattle.std.proofs.Common.{ap, sym, ◌∙◌, subst, true≢false}
use Rattle.std.proofs.lemmas.Option.{same_Some}
use Rattle.vl_tree.specs.Stmt.{Stmt}
use Rattle.vl_size.specs.declared.decl.Decl.{Decl}
use Rattle.vl_size.specs.Size.{Values}
use Rattle.vl_size.specs.Table.{AreApart, AreDifferent, IsShaped, declared_as}
use Rattle.vl_mean.specs.declared.driver.Driver.{Driver}
use Rattle.vl_mean.specs.declared.driver.DriverKind.{DriverKind}
use Rattle.vl_mean.specs.declared.driver.DriverKind.TheVariants as k
use Rattle.vl_mean.specs.declared.driver.Start.{Start}
use Rattle.vl_mean.specs.Execution.{begun, exec}
use Rattle.vl_mean.specs.FlatLaw.{IsBlock, IsDriver, IsLawful, flat_scopes}
use Rattle.vl_mean.specs.FlatParts.{driver_part, parts_of}
use Rattle.vl_mean.specs.Parts.{Part}
use Rattle.vl_mean.specs.Runs.{Each, PartAssumes}
use Rattle.vl_mean.specs.Targets.{bit_of}
use Rattle.vl_flow_spec.specs.Drivers.{AreInOrder, is_clocked, needed_by}
use Rattle.vl_flow_spec.specs.Paths.{needs}
use Rattle.vl_flow_spec.specs.Reads.{AreInRange}
use Rattle.vl_flow_spec.specs.Settle.{AreAccepted, IsBitOf, driven, settle}
use Rattle.vl_flow_spec.proofs.Cells.{HaveOwnCells}
use Rattle.vl_flow_spec.proofs.Clockless.{needs_no_clock}
use Rattle.vl_flow_spec.proofs.Execs.{exec_same}
use Rattle.vl_flow_spec.proofs.Settling.{settled_in_range, settled_keeps}
use Rattle.vl_mean_flat.proofs.EachOf.{back, both, front}
use Rattle.vl_flow_spec.specs.Refusals.{HasNoRefusal}
use Rattle.vl_flow_spec.specs.Sequence.{IsSequence, has_number}
use Rattle.vl_flow_spec.proofs.Chain.{kinds, settled_there, with_kind}
use Rattle.vl_flow_spec.proofs.Choices.{in_range_of}
use Rattle.vl_flow_spec.proofs.Elements.{decl_parts, driver_parts, each_at, each_mapped, start_parts}
use Rattle.vl_flow_spec.proofs.Held as held
use Rattle.vl_flow_spec.proofs.Bools.{or_case}
use Rattle.vl_lower_spec.specs.Built.{AreRanged}
use Rattle.vl_lower_spec.specs.Settled.{driven_by_this, settled}
use Rattle.vl_lower_spec.proofs.Agreeing as agreeing
use Rattle.vl_lower_spec.proofs.LoweredWhole.{settled_is}
use Rattle.std.proofs.lemmas.Bool.Decides.{nat_tests}
use Rattle.std.proofs.Common.{arith}
use Rattle.vl_lower_cell_laws.specs.Left.{SeenIsAssumed, seen_at_edge, seen_at_edges, seen_by, seen_by_this, seen_in}

abbrev Hold : List ℕ → Type 0
Hold xs = Each (λ x. 0 < x) xs

-- of drivers one after the other
abbrev seen_all : List Decl → List DriverKind → Values → List ℕ
seen_all ds [] v = []
seen_all ds (x ∷ xs) v = seen_by ds x v ++ seen_all ds xs (driven ds x v)

-- of all over one map
abbrev seen_over : List Decl → List DriverKind → Values → List ℕ
seen_over ds [] v = []
seen_over ds (x ∷ xs) v = seen_by ds x v ++ seen_over ds xs v

seen_is : (ds : List Decl) (drivers : List Driver) (s : List ℕ) (v : Values)
    → seen_in ds drivers s v ≡ seen_all ds (kinds drivers s) v
seen_is ds drivers [] v = refl
seen_is ds drivers (i ∷ is) v = by (slice_get drivers i) (λ w. seen_is ds drivers is w)
  where
    by : (o : Option Driver) → ((w : Values) → seen_in ds drivers is w ≡ seen_all ds (kinds drivers is) w)
        → (seen_by_this ds o v ++ seen_in ds drivers is (driven_by_this ds o v))
        ≡ seen_all ds (with_kind drivers o (kinds drivers is)) v
    by None f = f v
    by (Some x) f = ap (λ zs. seen_by ds x.what v ++ zs) (f (driven ds x.what v))

module _ (ds : List Decl) (shaped : All IsShaped ds) (apart : AreApart ds)
    (wide : (d : Decl) → declared_as ds d.name ≡ Some d → 1 ≤ d.width) (cells : HaveOwnCells ds) where
  block_seen : (z : Stmt) → IsBlock ds z → (u v : Values) → AreInRange ds u → AreInRange ds v
      → ((n : List ℕ) (i : ℕ) → IsBitOf ds n i → needs ds z n i ≡ true → bit_of (u n) i ≡ bit_of (v n) i)
      → (exec (flat_scopes ds) z (begun u)).seen ≡ (exec (flat_scopes ds) z (begun v)).seen
  block_seen z is u v ok_u ok_v h =
      (exec_same ds wide cells z is (needs ds z) (begun u) (begun v) (record {
        now = record {
          bits = λ d n i of below t.
              h n i (record { decl = d; of = of; below = below; counted = needs_no_clock ds cells z is d n i of t }) t;
          left = ok_u;
          right = ok_v;
          counted = needs_no_clock ds cells z is;
        };
        pending = refl;
        seen = refl;
      }) (λ n i t. t)).seen

  seen_same : (x : DriverKind) → IsDriver ds x → (u v : Values) → AreInRange ds u → AreInRange ds v
      → ((n : List ℕ) (i : ℕ) → IsBitOf ds n i → needed_by ds x n i ≡ true → bit_of (u n) i ≡ bit_of (v n) i)
      → seen_by ds x u ≡ seen_by ds x v
  seen_same (k.Assign l e) is u v ok_u ok_v h = refl
  seen_same (k.Comb z) is u v ok_u ok_v h = block_seen z is u v ok_u ok_v h
  seen_same (k.Clocked z) is u v ok_u ok_v h = block_seen z is u v ok_u ok_v h

  one_range : (x : DriverKind) (xs : List DriverKind) → AreAccepted ds (x ∷ xs) → (v : Values) → AreInRange ds v
      → AreInRange ds (driven ds x v)
  one_range x xs a v ok = settled_in_range ds shaped apart (x ∷ []) (a.0, a.1, a.2, tt) v ok

  -- each over what those before it leave, as over the map behind all
  seen_settled : (xs : List DriverKind) → AreAccepted ds xs → AreInOrder ds xs → (v : Values) → AreInRange ds v
      → seen_all ds xs v ≡ seen_over ds xs (settle ds xs v)
  seen_settled [] a o v ok = refl
  seen_settled (x ∷ xs) a o v ok =
      let here = seen_same x a.0 v (settle ds (x ∷ xs) v) ok (settled_in_range ds shaped apart (x ∷ xs) a v ok)
      (λ n i is t. sym (settled_keeps ds shaped apart (x ∷ xs) a v ok n i is (o.0 n i t))) in
      let rest = seen_settled xs a.3 o.2 (driven ds x v) (one_range x xs a v ok) in
      λ j. here j ++ rest j

module _ (ds : List Decl) (drivers : List Driver) (firsts : List Start) (s : List ℕ) (shaped : All IsShaped ds)
    (different : AreDifferent ds) (apart : AreApart ds) (lawful : IsLawful ds drivers firsts)
    (none : HasNoRefusal ds drivers) (order : IsSequence ds drivers s) (v : Values) (ranged : AreRanged ds v) where
  abbrev ps : List Part
  ps = parts_of ds drivers firsts

  abbrev u : Values
  u = settled ds drivers s v

  abbrev xs : List DriverKind
  xs = kinds drivers s

  on_the_way : seen_in ds drivers s v ≡ seen_over ds xs u
  on_the_way =
      seen_is ds drivers s v
      ∙ seen_settled ds shaped apart (held.wide ds drivers firsts shaped different apart lawful none s order)
      (held.cells ds drivers firsts shaped different apart lawful none s order) xs
      (held.ok ds drivers firsts shaped different apart lawful none s order)
      (held.in_order ds drivers firsts shaped different apart lawful none s order) v
      (in_range_of ds drivers firsts (agreeing.declared ds drivers firsts shaped different apart lawful none s order) v
      ranged)
      ∙ ap (seen_over ds xs) (sym (settled_is ds drivers s v))

  -- ---- of each driver

  abbrev IsAssumedBy : DriverKind → Type 0
  IsAssumedBy y = PartAssumes u (driver_part (flat_scopes ds) y)

  -- of one in the sequence
  seen_of : (js : List ℕ) → Hold (seen_over ds (kinds drivers js) u) → (j : ℕ) (x : Driver) → has_number js j ≡ true
      → slice_get drivers j ≡ Some x → Hold (seen_by ds x.what u)
  seen_of [] h j x t e = absurd (true≢false (sym t))
  seen_of (m ∷ js) h j x t e =
      or_case (j == m) (has_number js j)
      (λ f. let same : j ≡ m = grind (arith, nat_tests, f) in
      front (λ y. 0 < y) (seen_by ds x.what u) (seen_over ds (kinds drivers js) u)
      (subst (λ o. Hold (seen_over ds (with_kind drivers o (kinds drivers js)) u))
      (ap (slice_get drivers) (sym same) ∙ e) h))
      (λ f. seen_of js (rest (slice_get drivers m) h) j x f e) t
    where
      rest : (o : Option Driver) → Hold (seen_over ds (with_kind drivers o (kinds drivers js)) u)
          → Hold (seen_over ds (kinds drivers js) u)
      rest None g = g
      rest (Some y) g = back (λ z. 0 < z) (seen_by ds y.what u) (seen_over ds (kinds drivers js) u) g

  of_each : ((j : ℕ) (x : Driver) → slice_get drivers j ≡ Some x → Hold (seen_by ds x.what u)) → (js : List ℕ)
      → Hold (seen_over ds (kinds drivers js) u)
  of_each f [] = tt
  of_each f (m ∷ js) = by (slice_get drivers m) refl (of_each f js)
    where
      by : (o : Option Driver) → slice_get drivers m ≡ o → Hold (seen_over ds (kinds drivers js) u)
          → Hold (seen_over ds (with_kind drivers o (kinds drivers js)) u)
      by None e g = g
      by (Some x) e g = both (λ z. 0 < z) (seen_by ds x.what u) (seen_over ds (kinds drivers js) u) (f m x e) g

  -- at the clock's edge
  edge_of : (ys : List Driver) → Hold (seen_at_edges ds ys u) → (j : ℕ) (x : Driver) → slice_get ys j ≡ Some x
      → Hold (seen_at_edge ds x.what u)
  edge_of [] h j x e = absurd (true≢false (ap is_none e))
  edge_of (y ∷ ys) h zero x e =
      subst (λ (q : Driver). Hold (seen_at_edge ds q.what u)) (same_Some y x e)
      (front (λ z. 0 < z) (seen_at_edge ds y.what u) (seen_at_edges ds ys u) h)
  edge_of (y ∷ ys) h (suc j) x e =
      edge_of ys (back (λ z. 0 < z) (seen_at_edge ds y.what u) (seen_at_edges ds ys u) h) j x e

  edges_of : (ys : List Driver)
      → ((j : ℕ) (x : Driver) → slice_get ys j ≡ Some x → Hold (seen_at_edge ds x.what u))
      → Hold (seen_at_edges ds ys u)
  edges_of [] f = tt
  edges_of (y ∷ ys) f =
      both (λ z. 0 < z) (seen_at_edge ds y.what u) (seen_at_edges ds ys u) (f zero y refl)
      (edges_of ys (λ j x e. f (suc j) x e))

  -- ---- both together

  assumed_at : Hold (seen_over ds xs u) → Hold (seen_at_edges ds drivers u) → (j : ℕ) (x : Driver)
      → slice_get drivers j ≡ Some x → (y : DriverKind) → x.what ≡ y → IsAssumedBy y
  assumed_at h g j x e (k.Assign l f) what = tt
  assumed_at h g j x e (k.Comb z) what =
      subst (λ y. Hold (seen_by ds y u)) what
      (seen_of s h j x (order.all j (settled_there drivers j x e (ap is_clocked what))) e)
  assumed_at h g j x e (k.Clocked z) what =
      subst (λ y. Hold (seen_at_edge ds y u)) what (edge_of drivers g j x e)

  by_driver : (x : DriverKind) → IsAssumedBy x → Hold (seen_by ds x u) × Hold (seen_at_edge ds x u)
  by_driver (k.Assign l e) h = (tt, tt)
  by_driver (k.Comb z) h = (h, tt)
  by_driver (k.Clocked z) h = (h, h)

  trivial : (qs : List Part) → Each (λ p. Unit {0}) qs
  trivial [] = tt
  trivial (q ∷ qs) = (tt, trivial qs)

  forth : Hold (seen_in ds drivers s v) × Hold (seen_at_edges ds drivers u) → Each (PartAssumes u) ps
  forth h =
      agreeing.parts_map ds drivers firsts shaped different apart lawful none s order (λ p. Unit {0}) (PartAssumes u)
      (λ d own t. tt) (λ j x e is t. assumed_at (subst Hold on_the_way h.0) h.1 j x e x.what refl) (λ x. tt) (trivial ps)

  each_driver : Each (PartAssumes u) ps → (j : ℕ) (x : Driver) → slice_get drivers j ≡ Some x → IsAssumedBy x.what
  each_driver h j x e =
      each_at (λ (q : Driver). IsAssumedBy q.what) drivers j x e
      (each_mapped (PartAssumes u) (λ (q : Driver). driver_part (flat_scopes ds) q.what) drivers
      (back (PartAssumes u) (decl_parts ds) (driver_parts (flat_scopes ds) drivers)
      (front (PartAssumes u) (decl_parts ds ++ driver_parts (flat_scopes ds) drivers)
      (start_parts (flat_scopes ds) firsts) h)))

  back_again : Each (PartAssumes u) ps → Hold (seen_in ds drivers s v) × Hold (seen_at_edges ds drivers u)
  back_again h = (
    subst Hold (sym on_the_way) (of_each (λ j x e. (by_driver x.what (each_driver h j x e)).0) s),
    edges_of drivers (λ j x e. (by_driver x.what (each_driver h j x e)).1),
  )

pub seen_assumed : SeenIsAssumed
seen_assumed ds drivers firsts s shaped different apart lawful none order v ranged = (
  forth ds drivers firsts s shaped different apart lawful none order v ranged,
  back_again ds drivers firsts s shaped different apart lawful none order v ranged,
)
