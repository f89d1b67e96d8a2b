use Rattle.std.proofs.Common.{◌≡◌, ◌++◌, drop}
use Rattle.std.specs.Prelude.{slice_index}
use Rattle.wn_run.specs.Runs.{inputs_from, reset_at}
use Rattle.tr_replay.proofs.chosen.inputs_of.Given as goal

abbrev pub invariant-loop-index : goal.invariant-loop-index
invariant-loop-index l = l.made.items
    ++ inputs_from (slice_index l.each) (slice_index l.once) (reset_at l.cycle) l.index (drop l.index l.inputs)
    ≡ inputs_from (slice_index l.each) (slice_index l.once) (reset_at l.cycle) 0 l.inputs
