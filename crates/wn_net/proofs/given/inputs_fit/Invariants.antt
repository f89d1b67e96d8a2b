use Rattle.std.proofs.Common.{◌<◌, ◌^◌, ℕ, map}
use Rattle.std.specs.Prelude.{slice_index}
use Rattle.wn_net.proofs.given.inputs_fit.Given as goal

abbrev pub invariant-loop-index : goal.invariant-loop-index
invariant-loop-index l =
    (k : ℕ) → k < l.index → slice_index l.numbers k < 2 ^ slice_index (map (λ x. x.width) l.inputs) k
