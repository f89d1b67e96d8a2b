use Rattle.std.proofs.Common.{take}
use Rattle.tr_replay.specs.Traces.{choices_of}
use Rattle.bm_decide.specs.Chosen.{HaveNumbers}
use Rattle.bm_decide.proofs.choosing.choices.Given as goal

abbrev pub invariant-loop-index : goal.invariant-loop-index
invariant-loop-index l = HaveNumbers (take l.index l.sources) (take l.index l.numbers) (choices_of l.made)
