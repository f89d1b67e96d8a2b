use Rattle.std.proofs.Common.{◌≡◌, ◌++◌, drop, []}
use Rattle.std.specs.Prelude.{slice_index, slice_index_or}
use Rattle.wn_run.specs.Runs.{mems_from}
use Rattle.tr_replay.proofs.start.mems_of.Given as goal

abbrev pub invariant-loop-index : goal.invariant-loop-index
invariant-loop-index l = l.made
    ++ mems_from (λ m. slice_index (slice_index_or l.choices m [])) l.index (drop l.index l.mems)
    ≡ mems_from (λ m. slice_index (slice_index_or l.choices m [])) 0 l.mems
