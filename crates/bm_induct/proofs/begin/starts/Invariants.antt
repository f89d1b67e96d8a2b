use Rattle.std.specs.Prelude.{◌≡◌, map, take}
use Rattle.bm_induct.specs.Rebuilt as spec
use Rattle.bm_induct.proofs.begin.starts.Given as goal

abbrev pub invariant-loop-word : goal.invariant-loop-word
invariant-loop-word l = l.made ≡ map (spec.start_for l.how) (take l.word-index l.words)
