use Rattle.std.proofs.Common.{◌≡◌}
use Rattle.std.specs.Prelude.{drop, map}
use Rattle.vl_elab_spec.specs.Items.{placed_names}
use Rattle.vl_elab_spec.specs.Refused.{lower_of, lowest}
use Rattle.vl_elab_names.specs.Known.{contains}
use Rattle.vl_elab_check_scope.specs.Parts.{with_names, twice_by}
use Rattle.vl_elab_check_scope.proofs.twice.all_declared.Given as goal

abbrev pub invariant-loop-name : goal.invariant-loop-name
invariant-loop-name l = record {
  fault : lower_of l.fault (lowest (twice_by (contains l.earlier) (placed_names (drop l.name-index l.all))))
      ≡ lowest (twice_by (contains l.fn.earlier) (placed_names l.all));
  names : with_names (contains l.earlier) (map (λ x. x.name) (drop l.name-index l.all))
      ≡ with_names (contains l.fn.earlier) (map (λ x. x.name) l.all);
}
