use Rattle.std.proofs.Common.{◌≡◌, ◌++◌, drop}
use Rattle.std.specs.Prelude.{slice_index}
use Rattle.wn_run.specs.Runs.{regs_from}
use Rattle.tr_replay.proofs.start.regs_of.Given as goal

abbrev pub invariant-loop-index : goal.invariant-loop-index
invariant-loop-index l = l.made ++ regs_from (slice_index l.choices) l.index (drop l.index l.regs)
    ≡ regs_from (slice_index l.choices) 0 l.regs
