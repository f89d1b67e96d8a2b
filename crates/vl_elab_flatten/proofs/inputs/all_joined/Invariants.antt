use Rattle.std.proofs.Common.{◌≡◌, false, ℕ, List}
use Rattle.std.specs.Prelude.{drop}
use Rattle.vl_mean.specs.Scopes.{is_clock}
use Rattle.vl_elab_names.specs.Known.{contains}
use Rattle.vl_elab_check_instance.specs.Clock.{joined_to}
use Rattle.vl_elab_flatten.proofs.inputs.all_joined.Given as goal

abbrev pub invariant-loop-given : goal.invariant-loop-given
invariant-loop-given l =
    (other : List ℕ)
    → joined_to (is_clock l.scopes) (drop l.given-index l.all) (contains l.seen) (contains l.joined) other
    ≡ joined_to (is_clock l.scopes) l.all (λ text. false) (λ text. false) other
