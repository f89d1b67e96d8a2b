use Rattle.std.specs.Prelude.{MatchOption}
use Rattle.sat_cubes.specs.Parts.{NoneLeft, IsNextBy}
use Rattle.sat_cubes.proofs.splitting.next_of.Given as goal

abbrev pub invariant-loop-index : goal.invariant-loop-index
invariant-loop-index l =
    MatchOption l.next (NoneLeft l.index l.taken) (λ var. IsNextBy l.counts l.index l.taken var)
