use Rattle.std.proofs.Common.{◌≡◌, false, ℕ, List}
use Rattle.std.specs.Prelude.{drop}
use Rattle.vl_elab_names.specs.Known.{contains}
use Rattle.vl_elab_check_instance.specs.Clock.{is_clock, joined_to}
use Rattle.vl_elab_check_instance.proofs.inputs.all_joined.Given as goal

abbrev pub invariant-loop-given : goal.invariant-loop-given
invariant-loop-given l =
    (other : List ℕ)
    → joined_to (is_clock (contains l.clocks) l.numbers) (drop l.given-index l.all) (contains l.seen)
    (contains l.joined) other
    ≡ joined_to (is_clock (contains l.clocks) l.numbers) l.all (λ text. false) (λ text. false) other
