use Rattle.std.proofs.Common.{◌≡◌}
use Rattle.std.specs.Prelude.{drop, map}
use Rattle.vl_elab_spec.specs.Refused.{lower_of, lowest}
use Rattle.vl_elab_names.specs.Known.{contains}
use Rattle.vl_elab_check_scope.specs.Parts.{with_names, twice_by}
use Rattle.vl_elab_check_scope.proofs.twice.all_genvars.Given as goal

abbrev pub invariant-loop-text : goal.invariant-loop-text
invariant-loop-text l = record {
  fault : lower_of l.fault (lowest (twice_by (contains l.earlier) (map (λ text. (text, l.pos))
      (drop l.text-index l.all))))
      ≡ lowest (twice_by (contains l.fn.earlier) (map (λ text. (text, l.pos)) l.all));
  names : with_names (contains l.earlier) (drop l.text-index l.all) ≡ with_names (contains l.fn.earlier) l.all;
}
