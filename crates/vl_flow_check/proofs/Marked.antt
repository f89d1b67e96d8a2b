-- The names of which a lawful driver assigns bits: it assigns none past a name's width.
use Rattle.std.specs.Prelude.{◌≡◌, ℕ, ◌<◌, List, true, Some, slice_get}
use Rattle.std.proofs.Common.{sym, ◌∙◌, arith, subst}
use Rattle.vl_size.specs.declared.decl.Decl.{Decl}
use Rattle.vl_size.specs.Table.{AreApart, AreDifferent}
use Rattle.vl_mean.specs.FlatLaw.{IsDriver}
use Rattle.vl_mean.specs.declared.driver.DriverKind.{DriverKind}
use Rattle.fv_bit_sets.specs.declared.step.Step.{Step}
use Rattle.fv_bit_sets.specs.Cells.{has}
use Rattle.vl_flow_spec.specs.Drivers.{driven_by}
use Rattle.vl_flow_spec.proofs.Cells.{own_cells}
use Rattle.vl_flow_spec.specs.Refusals.{has_bit}
use Rattle.vl_flow_spec.proofs.Changed.{driver_changed}
use Rattle.vl_flow_spec.proofs.Found.{has_it}
use Rattle.vl_flow_order.specs.declared.reads_groups.Groups.{Groups}
use Rattle.vl_flow_order.specs.Named.{AreNamesOf, HasBitOf}
use Rattle.vl_flow_cells.specs.Numbered.{all_cells, Shows}
use Rattle.vl_flow_cells.proofs.Lists.{declared_own, get_some}
use Rattle.vl_flow_cells.proofs.Numbers.{cell_between, next_first}
use Rattle.vl_flow_cells.proofs.Ranges.{same_test}
use Rattle.vl_flow_order.specs.CellGroups.{AreGroupsOf}
use Rattle.vl_flow_check.specs.Layouts.{AreAllBits, Marks}
use Rattle.vl_flow_check.proofs.NameMarks.{cell_less, from_name, group_at, HasBitAt}

module _ (ds : List Decl) (groups : Groups) (all : List Step) (x : DriverKind) (s made : List Step)
    (different : AreDifferent ds) (apart : AreApart ds) (w : AreGroupsOf ds groups) (whole : AreAllBits ds all)
    (is : IsDriver ds x) (shows : Shows ds (has s) (driven_by ds x)) (names : AreNamesOf groups s made) where
  pub driver_marked : Marks ds made (has_bit (driven_by ds x))
  driver_marked = record {
    is = λ p d at. same_test (has made p 0) (has_bit (driven_by ds x) d) (λ h. to p d at (names.some p h))
        (λ h. from p d at (from_name ds s all (driven_by ds x) p d shows whole at h));
    known = λ p h. let r = names.some p h in w.below.known r.cell p r.of;
    alone = names.alone;
  }
    where
      from : (p : ℕ) (d : Decl) → slice_get ds p ≡ Some d → HasBitAt ds s all p → has made p 0 ≡ true
      from p d at r =
          names.all p (record {
            cell = r.cell;
            bit = r.bit;
            of = group_at ds groups w p d r.cell at r.of;
            has_it = r.has_it;
          })

      to : (p : ℕ) (d : Decl) → slice_get ds p ≡ Some d → HasBitOf groups s p → has_bit (driven_by ds x) d ≡ true
      to p d at r =
          let of = w.below.of r.cell p r.of in
          let n = get_some (all_cells ds) r.cell (cell_less ds p d r.cell at of) in
          let next = next_first ds p d at in
          let cell = cell_between ds p d r.cell n.0 at n.1 of.0 (omega (arith, of.1, next)) in
          let driven : driven_by ds x n.0 r.bit ≡ true = sym (shows r.cell n.0 r.bit n.1) ∙ r.has_it in
          let b = driver_changed ds x is n.0 r.bit driven in
          let same : d ≡ b.decl =
          own_cells ds apart d b.decl n.0 (record { declared = declared_own ds different p d at; cell = cell }) b.of in
          has_it (driven_by ds x) d n.0 r.bit cell (subst (λ z. r.bit < z.width) (sym same) b.below) driven
