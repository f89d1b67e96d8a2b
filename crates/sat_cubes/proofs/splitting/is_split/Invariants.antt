use Rattle.std.proofs.Common.{◌≡◌, drop}
use Rattle.sat_cubes.specs.Splits.{is_split}
use Rattle.sat_cubes.proofs.splitting.is_split.Given as goal

abbrev pub invariant-loop-other : goal.invariant-loop-other
invariant-loop-other l = is_split (drop l.other-index l.split) l.var ≡ is_split l.split l.var
