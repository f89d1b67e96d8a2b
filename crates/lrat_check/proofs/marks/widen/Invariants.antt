use Rattle.std.proofs.Common.{◌≡◌, ◌+◌, ◌-◌, ℕ, vec_len}
use Rattle.lrat_check.specs.Marks.{is_near}
use Rattle.lrat_check.proofs.marks.widen.Given as goal

abbrev pub invariant-loop-table : goal.invariant-loop-table
invariant-loop-table l = (k : ℕ) → is_near l.table.items k ≡ is_near l.fn.table.items k

abbrev pub decreases-loop-table : goal.decreases-loop-table
decreases-loop-table l = l.code + 1 - vec_len l.table
