use Rattle.std.proofs.Common.{◌≡◌, ℕ, List}
use Rattle.std.specs.Prelude.{drop}
use Rattle.vl_mean.specs.Params.{constant}
use Rattle.vl_elab_spec.specs.Meanings.{constants}
use Rattle.vl_elab_scope.specs.Texts.{of_names, or_else}
use Rattle.vl_elab_scope.proofs.tables.constants_of.Given as goal

abbrev pub invariant-loop-text : goal.invariant-loop-text
invariant-loop-text l =
    (other : List ℕ)
    → or_else (constant l.params other) (of_names (constants l.names) (drop l.text-index l.texts) other)
    ≡ of_names (constants l.names) l.texts other
