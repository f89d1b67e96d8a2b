use Rattle.std.proofs.Common.{◌≡◌, ◌++◌, ◌-◌}
use Rattle.tr_replay.specs.Traces.{word_names}
use Rattle.tr_replay.proofs.names.put_words.Given as goal

abbrev pub invariant-loop-place : goal.invariant-loop-place
invariant-loop-place l = l.made ++ word_names l.name.text l.name.width l.range l.place (l.count - l.place)
    ≡ l.initial.made ++ word_names l.name.text l.name.width l.range 0 l.count
