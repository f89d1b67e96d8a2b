use Rattle.std.proofs.Common.{◌≡◌, ◌+◌, ◌-◌, ◌≤◌, ◌++◌, length, map, take, vec_len, vec_capacity}
use Rattle.cnf_form.proofs.flat.push_starts.Given as goal

abbrev pub invariant-loop-start : goal.invariant-loop-start
invariant-loop-start l = (l.starts.items ≡ l.fn.starts.items ++ map (λ start. l.end + start) (take l.start-index l.more))
    × (vec_len l.starts + (length l.more - l.start-index) ≤ vec_capacity l.starts)
