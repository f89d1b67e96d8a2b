use Rattle.std.proofs.Common.{◌≡◌, ◌++◌, drop}
use Rattle.std.specs.Prelude.{slice_index}
use Rattle.wn_run.specs.Runs.{words_from}
use Rattle.tr_replay.proofs.start.words_of.Given as goal

abbrev pub invariant-loop-index : goal.invariant-loop-index
invariant-loop-index l = l.made ++ words_from (slice_index l.choices) l.index (drop l.index l.inits)
    ≡ words_from (slice_index l.choices) 0 l.inits
