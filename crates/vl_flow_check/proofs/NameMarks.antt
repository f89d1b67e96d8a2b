-- A name's bits, as those of the cells under its numbers.
use Rattle.std.specs.Prelude.{◌≡◌, refl, ℕ, suc, ◌+◌, ◌<◌, List, length, true, ◌&&◌, nat_lt}
use Rattle.std.specs.Prelude.{Some, slice_get}
use Rattle.std.proofs.Common.{ap, sym, ◌∙◌, arith}
use Rattle.std.proofs.lemmas.Bool.{and_from, and_parts}
use Rattle.std.proofs.lemmas.Bool.Decides.{nat_tests}
use Rattle.vl_size.specs.declared.decl.Decl.{Decl}
use Rattle.vl_mean.specs.Cells.{cells}
use Rattle.fv_bit_sets.specs.declared.step.Step.{Step}
use Rattle.fv_bit_sets.specs.Cells.{has}
use Rattle.vl_flow_spec.specs.Reads.{Bits}
use Rattle.vl_flow_spec.specs.Refusals.{has_bit}
use Rattle.vl_flow_spec.proofs.Found.{bit_found, has_it}
use Rattle.vl_flow_order.specs.declared.reads_groups.Groups.{Groups}
use Rattle.vl_flow_order.specs.Named.{AreNamesOf, HasBitOf}
use Rattle.vl_flow_cells.specs.Numbered.{all_cells, first_cell, Shows}
use Rattle.vl_flow_cells.proofs.Lists.{get_less, get_some, place_in}
use Rattle.vl_flow_cells.proofs.Numbers.{cell_between, next_first, numbered}
use Rattle.vl_flow_cells.proofs.Ranges.{same_test}
use Rattle.vl_flow_order.specs.CellGroups.{AreGroupsOf, IsCellAt}
use Rattle.vl_flow_order.proofs.Cells.{all_length, first_rises, one_group}
use Rattle.vl_flow_check.specs.Layouts.{AreAllBits, Marks}

-- a bit of the set that is a bit of the name
pub record HasBitAt (ds : List Decl) (s all : List Step) (place : ℕ) : Type 0 where
  pub cell : ℕ
  pub bit : ℕ
  pub of : IsCellAt ds cell place
  pub has_it : has s cell bit ≡ true
  pub inside : has all cell bit ≡ true

module _ (ds : List Decl) where
  pub cell_less : (p : ℕ) (d : Decl) (c : ℕ) → slice_get ds p ≡ Some d → IsCellAt ds c p → c < length (all_cells ds)
  cell_less p d c at of =
      let less = get_less ds p d at in
      let rise = first_rises ds (suc p) (length ds) (omega (arith, less)) in
      let size = all_length ds in omega (arith, of.1, rise, size)

  pub to_name : (s all : List Step) (K : Bits) (p : ℕ) (d : Decl) → Shows ds (has s) K → AreAllBits ds all
      → slice_get ds p ≡ Some d → HasBitAt ds s all p → has_bit K d ≡ true
  to_name s all K p d shows whole at h =
      let n = get_some (all_cells ds) h.cell (cell_less p d h.cell at h.of) in
      let next = next_first ds p d at in
      let cell = cell_between ds p d h.cell n.0 at n.1 h.of.0 (omega (arith, h.of.1, next)) in
      let test : nat_lt h.bit d.width ≡ true = sym (whole p h.cell h.bit d at h.of) ∙ h.inside in
      has_it K d n.0 h.bit cell (grind (arith, nat_tests, test)) (sym (shows h.cell n.0 h.bit n.1) ∙ h.has_it)

  pub from_name : (s all : List Step) (K : Bits) (p : ℕ) (d : Decl) → Shows ds (has s) K → AreAllBits ds all
      → slice_get ds p ≡ Some d → has_bit K d ≡ true → HasBitAt ds s all p
  from_name s all K p d shows whole at h =
      let r = bit_found K d h in
      let k = place_in (cells d) r.0 r.2 in
      let c = first_cell ds p + k.0 in
      let number = numbered ds p d k.0 r.0 c at k.1 refl in
      let next = next_first ds p d at in
      let less = get_less (cells d) k.0 r.0 k.1 in
      let of : IsCellAt ds c p = (omega arith, omega (arith, next, less)) in
      let test : nat_lt r.1 d.width ≡ true = grind (arith, nat_tests, r.3) in record {
        cell = c;
        bit = r.1;
        of = of;
        has_it = shows c r.0 r.1 number ∙ r.4;
        inside = whole p c r.1 d at of ∙ test;
      }

  pub group_at : (groups : Groups) → AreGroupsOf ds groups → (p : ℕ) (d : Decl) (c : ℕ) → slice_get ds p ≡ Some d
      → IsCellAt ds c p → slice_get groups.of_cells c ≡ Some p
  group_at groups w p d c at of =
      let less = cell_less p d c at of in
      let r = get_some groups.of_cells c (omega (arith, less, w.cells)) in
      r.1 ∙ ap Some (one_group ds c r.0 p (w.below.of c r.0 r.1) of)

  pub names_marked : (groups : Groups) (s all inside made : List Step) (K : Bits) → AreGroupsOf ds groups
      → AreAllBits ds all → Shows ds (has s) K → ((c i : ℕ) → has inside c i ≡ (has s c i && has all c i))
      → AreNamesOf groups inside made → Marks ds made (has_bit K)
  names_marked groups s all inside made K w whole shows both names = record {
    is = λ p d at. same_test (has made p 0) (has_bit K d) (λ h. to p d at (names.some p h))
        (λ h. from p d at (from_name s all K p d shows whole at h));
    known = λ p h. let r = names.some p h in w.below.known r.cell p r.of;
    alone = names.alone;
  }
    where
      to : (p : ℕ) (d : Decl) → slice_get ds p ≡ Some d → HasBitOf groups inside p → has_bit K d ≡ true
      to p d at r =
          let h = and_parts (has s r.cell r.bit) (has all r.cell r.bit) (sym (both r.cell r.bit) ∙ r.has_it) in
          to_name s all K p d shows whole at (record {
            cell = r.cell;
            bit = r.bit;
            of = w.below.of r.cell p r.of;
            has_it = h.0;
            inside = h.1;
          })

      from : (p : ℕ) (d : Decl) → slice_get ds p ≡ Some d → HasBitAt ds s all p → has made p 0 ≡ true
      from p d at r =
          names.all p (record {
            cell = r.cell;
            bit = r.bit;
            of = group_at groups w p d r.cell at r.of;
            has_it = both r.cell r.bit ∙ and_from (has s r.cell r.bit) (has all r.cell r.bit) r.has_it r.inside;
          })
