use Rattle.lrat_check.proofs.Moving.{Packs}
use Rattle.lrat_check.proofs.pack.pack_codes.Given as goal

abbrev pub invariant-loop-place : goal.invariant-loop-place
invariant-loop-place l = Packs l.fn.codes.items l.starts l.held l.place l.to l.codes.items
