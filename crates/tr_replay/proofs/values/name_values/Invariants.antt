use Rattle.std.proofs.Common.{◌≡◌, ◌++◌, drop}
use Rattle.tr_replay.specs.Values.{all_by}
use Rattle.tr_replay.proofs.values.name_values.Given as goal

abbrev pub invariant-loop-name : goal.invariant-loop-name
invariant-loop-name l = l.made.items ++ all_by l.values l.state.mems (drop l.name-index l.names)
    ≡ all_by l.values l.state.mems l.names
