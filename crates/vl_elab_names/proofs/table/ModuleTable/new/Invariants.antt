use Rattle.std.proofs.Common.{◌≡◌, ◌≤◌, length, List, ℕ}
use Rattle.std.specs.Prelude.{drop}
use Rattle.vl_elab_names.specs.Table.{place_in, place_from}
use Rattle.vl_elab_names.proofs.table.ModuleTable.new.Given as goal

abbrev pub invariant-loop-place : goal.invariant-loop-place
invariant-loop-place l = record {
  within : l.place ≤ length l.all;
  places : (text : List ℕ) → place_in l.table text ≡ place_from l.place (drop l.place l.all) text;
}

abbrev pub decreases-loop-place : goal.decreases-loop-place
decreases-loop-place l = l.place
