-- Who reads from whom, as drivers and as sets of bits.
use Rattle.std.specs.Prelude.{◌≡◌, ℕ, ◌≤◌, ◌^◌, List, length, false, Some, slice_get}
use Rattle.std.proofs.Common.{ap, sym, ◌∙◌, arith, subst}
use Rattle.vl_size.specs.declared.decl.Decl.{Decl}
use Rattle.vl_mean.specs.declared.driver.Driver.{Driver}
use Rattle.vl_flow_spec.specs.Drivers.{is_clocked}
use Rattle.vl_flow_spec.specs.Refusals.{ReadsFrom}
use Rattle.vl_flow_cells.specs.Numbered.{all_cells}
use Rattle.vl_flow_cells.proofs.Lists.{get_less, get_some}
use Rattle.fv_graph.specs.Graph.{IsWithin}
use Rattle.vl_flow_order.specs.declared.footprint.Footprint.{Footprint}
use Rattle.vl_flow_order.specs.declared.reads_groups.Groups.{Groups}
use Rattle.vl_flow_order.specs.Reads.{IsReadingGraph, ReadsAt}
use Rattle.vl_flow_order.specs.Footprints.{AreFootprintsOf}

pub graph_within : (groups : Groups) (fs : List Footprint) (g h : List (List ℕ)) → IsReadingGraph groups fs g → h ≡ g
    → IsWithin h
graph_within groups fs g h w e =
    subst IsWithin (sym e) (λ i j lead.
    let r = w.sound i j lead in
    let less = get_less fs j r.driver r.driver_is in omega (arith, less, w.size))

pub graph_few : (groups : Groups) (fs : List Footprint) (g h : List (List ℕ)) → IsReadingGraph groups fs g → h ≡ g
    → length fs ≤ 2 ^ 32 → length h ≤ 2 ^ 32
graph_few groups fs g h w e few = let size : length h ≡ length fs = ap length e ∙ w.size in omega (arith, size, few)

module _ (ds : List Decl) (groups : Groups) (fs : List Footprint) (drivers : List Driver)
    (w : AreFootprintsOf ds groups fs drivers) where
  pub footprint_at : (i : ℕ) (x : Driver) → slice_get drivers i ≡ Some x → (f : Footprint) × (slice_get fs i ≡ Some f)
  footprint_at i x e = let less = get_less drivers i x e in get_some fs i (omega (arith, less, w.size))

  pub driver_at : (i : ℕ) (f : Footprint) → slice_get fs i ≡ Some f → (x : Driver) × (slice_get drivers i ≡ Some x)
  driver_at i f e = let less = get_less fs i f e in get_some drivers i (omega (arith, less, w.size))

  pub reads_at : (i j : ℕ) (x y : Driver) → slice_get drivers i ≡ Some x → slice_get drivers j ≡ Some y
      → is_clocked x.what ≡ false → is_clocked y.what ≡ false → ReadsFrom ds x y → ReadsAt groups fs i j
  reads_at i j x y e h settled assigning r =
      let f = footprint_at i x e in
      let g = footprint_at j y h in
      let reader = w.each i f.0 x f.1 e in
      let driver = w.each j g.0 y g.1 h in
      let c = w.declared j y r.cell r.offset h r.driven in
      let less = get_less (all_cells ds) c.0 r.cell c.1 in record {
        reader = f.0;
        driver = g.0;
        reader_is = f.1;
        driver_is = g.1;
        settled = reader.clocked ∙ settled;
        assigning = driver.clocked ∙ assigning;
        cell = c.0;
        bit = r.offset;
        known = omega (arith, less, w.groups_are.cells);
        needed = reader.needs c.0 r.cell r.offset c.1 ∙ r.read;
        driven = driver.drives c.0 r.cell r.offset c.1 ∙ r.driven;
      }

  pub reads_from : (i j : ℕ) (x y : Driver) → slice_get drivers i ≡ Some x → slice_get drivers j ≡ Some y
      → ReadsAt groups fs i j → ReadsFrom ds x y
  reads_from i j x y e h r =
      let n = get_some (all_cells ds) r.cell (omega (arith, r.known, w.groups_are.cells)) in
      let reader = w.each i r.reader x r.reader_is e in
      let driver = w.each j r.driver y r.driver_is h in record {
        cell = n.0;
        offset = r.bit;
        read = sym (reader.needs r.cell n.0 r.bit n.1) ∙ r.needed;
        driven = sym (driver.drives r.cell n.0 r.bit n.1) ∙ r.driven;
      }

  pub reader_settled : (i j : ℕ) (x : Driver) → slice_get drivers i ≡ Some x → ReadsAt groups fs i j
      → is_clocked x.what ≡ false
  reader_settled i j x e r = sym (w.each i r.reader x r.reader_is e).clocked ∙ r.settled
