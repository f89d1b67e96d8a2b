use Rattle.std.proofs.Common.{◌≡◌, ℕ, length, slice_get, Some}
use Rattle.vl_flow_cells.specs.Numbered.{first_cell}
use Rattle.vl_flow_cells.proofs.numbering.Numbering.of.Given as goal

abbrev pub invariant-loop-index : goal.invariant-loop-index
invariant-loop-index l = record {
  size : length l.firsts ≡ l.index;
  firsts : (i first : ℕ) → slice_get l.firsts i ≡ Some first → first ≡ first_cell l.decls i;
  next : l.next ≡ first_cell l.decls l.index;
}
