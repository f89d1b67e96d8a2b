use Rattle.std.proofs.Common.{◌≡◌, ◌++◌, drop}
use Rattle.lrat_check.specs.Store.{marked}
use Rattle.lrat_check.proofs.ids.Ids.kept.Given as goal

abbrev pub invariant-loop-place : goal.invariant-loop-place
invariant-loop-place l =
    l.kept ++ marked (drop l.place l.self) (drop l.place l.marks) ≡ marked l.self l.marks
