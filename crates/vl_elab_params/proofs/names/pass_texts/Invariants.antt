use Rattle.std.proofs.Common.{◌≡◌}
use Rattle.std.specs.Prelude.{drop}
use Rattle.vl_elab_params.specs.Passed.{with_all_passed}
use Rattle.vl_elab_params.proofs.names.pass_texts.Given as goal

abbrev pub invariant-loop-text : goal.invariant-loop-text
invariant-loop-text l =
    with_all_passed l.pending l.names l.passed (drop l.text-index l.all)
    ≡ with_all_passed l.pending l.names l.fn.passed l.all
