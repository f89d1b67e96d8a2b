use Rattle.std.proofs.Common.{◌≡◌}
use Rattle.std.specs.Prelude.{drop}
use Rattle.vl_mean.specs.Declarations.{header_parameters}
use Rattle.vl_elab_const.specs.Given.{value_given}
use Rattle.vl_elab_params.specs.Entered.{stacks, with_parameters}
use Rattle.vl_elab_params.proofs.parameters.add_header.Given as goal

abbrev pub invariant-loop-parameter : goal.invariant-loop-parameter
invariant-loop-parameter l =
    with_parameters (value_given l.given) (stacks l.names l.numbers) (header_parameters (drop l.parameter-index l.all))
    ≡ with_parameters (value_given l.given) (stacks l.fn.names l.fn.numbers) (header_parameters l.all)
