use Rattle.std.proofs.Common.{◌++◌, ℕ, List}
use Rattle.std.specs.Prelude.{drop}
use Rattle.vl_mean.specs.Constants.{Constants}
use Rattle.vl_mean.specs.Declarations.{Overrides}
use Rattle.vl_mean.specs.Scopes.{Scope}
use Rattle.vl_elab_spec.specs.Meanings.{Names}
use Rattle.vl_elab_const.specs.Given.{IsGiven, value_given}
use Rattle.vl_elab_const.specs.Numbers.{HaveNumbers}
use Rattle.vl_elab_const.specs.Openable.{Different, constant_names}
use Rattle.vl_mean.specs.Declarations.{with_parameters}
use Rattle.vl_mean.specs.Walk.{parameter_names}
use Rattle.vl_elab_flatten.specs.Levels.{HasConstants}
use Rattle.vl_elab_flatten.proofs.Adding.{ParametersGo}
use Rattle.vl_elab_flatten.proofs.constants.add_parameters.Given as goal

abbrev pub invariant-loop-parameter : goal.invariant-loop-parameter
invariant-loop-parameter l =
    (os : Overrides) (ss : List Scope) (path : List ℕ) (cs : Constants) (outer : List Names)
    (g : IsGiven (value_given l.given) os) (h : HaveNumbers outer ss)
    → Different (constant_names cs ++ parameter_names l.all)
    → HasConstants path cs outer l.fn.scope l.fn.numbers
    → ParametersGo (value_given l.given) os ss path outer g h (with_parameters os ss cs l.all) l.scope l.numbers
    (drop l.parameter-index l.all)
