use Rattle.std.proofs.Common.{◌≡◌, ◌≤◌, ◌++◌, length, List, ℕ}
use Rattle.std.specs.Prelude.{drop, slice_get}
use Rattle.vl_tree.specs.declared.declaration.HeaderParameter.{HeaderParameter}
use Rattle.vl_tree.specs.declared.declaration.Parameter.{Parameter}
use Rattle.vl_tree.specs.Item.{Item}
use Rattle.vl_elab_check_instance.specs.declared.parameters.Spot.TheVariants as s
use Rattle.vl_elab_check_instance.specs.Parameters.{parameter_at, Finds}
use Rattle.vl_elab_check_instance.proofs.parameters.ParameterTable.put_all.Given as goal

abbrev pub invariant-loop-inner : goal.invariant-loop-inner
invariant-loop-inner l = record {
  within : l.inner ≤ length l.all;
  finds : (hs : List HeaderParameter) (xs : List Item) (ps : List Parameter)
      → ((i : ℕ) → parameter_at hs xs (s.Item l.place i) ≡ slice_get l.all i) → Finds l.fn.self hs xs ps
      → Finds l.self hs xs (drop l.inner l.all ++ ps);
}

abbrev pub decreases-loop-inner : goal.decreases-loop-inner
decreases-loop-inner l = l.inner
