use Rattle.std.proofs.Common.{◌≡◌, drop}
use Rattle.std.specs.List.{list_any}
use Rattle.sat_learn.specs.Analysis.{is_stray}
use Rattle.sat_learn.proofs.shortening.any_stray.Given as goal

abbrev pub invariant-loop-lit : goal.invariant-loop-lit
invariant-loop-lit l = list_any (is_stray l.set l.forced l.dropped) (drop l.lit-index l.clause)
    ≡ list_any (is_stray l.set l.forced l.dropped) l.clause
