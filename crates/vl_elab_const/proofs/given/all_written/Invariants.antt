use Rattle.std.proofs.Common.{◌≡◌, ℕ, List}
use Rattle.std.specs.Prelude.{drop}
use Rattle.std.specs.Option.{option_copied}
use Rattle.vl_elab_scope.specs.Texts.{or_else}
use Rattle.vl_elab_const.specs.Given.{is_value, value_given, first_value}
use Rattle.vl_elab_const.proofs.given.all_written.Given as goal

abbrev pub invariant-loop-written : goal.invariant-loop-written
invariant-loop-written l =
    (other : List ℕ)
    → or_else (value_given l.given other) (first_value (is_value (option_copied l.names)) l.numbers (drop l.written-index l.all) other)
    ≡ first_value (is_value (option_copied l.names)) l.numbers l.all other
