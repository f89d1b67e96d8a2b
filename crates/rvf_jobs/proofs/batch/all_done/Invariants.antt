use Rattle.std.proofs.Common.{◌≡◌, map, Ok}
use Rattle.rvf_jobs.proofs.batch.all_done.Given as goal

-- the results so far are these answers
abbrev pub invariant-loop-result : goal.invariant-loop-result
invariant-loop-result g l = map (λ answer. Ok answer) l.answers.items ≡ l.yielded
