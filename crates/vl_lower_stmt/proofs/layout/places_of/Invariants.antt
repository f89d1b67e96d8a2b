use Rattle.std.proofs.Common.{◌≡◌, ◌<◌, ℕ, length, slice_get, Some}
use Rattle.vl_size.specs.declared.decl.Decl.{Decl}
use Rattle.vl_flow_cells.specs.Numbered.{first_cell}
use Rattle.vl_lower_stmt.specs.Layout.{place_at}
use Rattle.vl_lower_stmt.proofs.layout.places_of.Given as goal

abbrev pub invariant-loop-index : goal.invariant-loop-index
invariant-loop-index l = record {
  size : length l.places ≡ l.index;
  at : (i : ℕ) (d : Decl) → i < l.index → slice_get l.decls i ≡ Some d
      → slice_get l.places i ≡ Some (place_at d (first_cell l.decls i));
  next : l.next ≡ first_cell l.decls l.index;
}
