use Rattle.std.proofs.Common.{◌≡◌}
use Rattle.std.specs.Prelude.{drop}
use Rattle.std.specs.Prelude.{map}
use Rattle.vl_elab_params.specs.Passed.{with_all_passed}
use Rattle.vl_elab_params.proofs.names.pass_declared.Given as goal

abbrev pub invariant-loop-name : goal.invariant-loop-name
invariant-loop-name l =
    with_all_passed l.pending l.names l.passed (map (λ x. x.name) (drop l.name-index l.all))
    ≡ with_all_passed l.pending l.names l.fn.passed (map (λ x. x.name) l.all)
