use Rattle.std.proofs.Common.{◌≡◌, ◌++◌, drop}
use Rattle.std.specs.List.{flat_map}
use Rattle.tr_replay.specs.Traces.{names_of}
use Rattle.tr_replay.proofs.names.trace_names.Given as goal

abbrev pub invariant-loop-name : goal.invariant-loop-name
invariant-loop-name l = l.made ++ flat_map (names_of l.net) (drop l.name-index l.names)
    ≡ flat_map (names_of l.net) l.names
