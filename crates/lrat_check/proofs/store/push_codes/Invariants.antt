use Rattle.std.proofs.Common.{◌≡◌, ◌+◌, ◌-◌, ◌≤◌, ◌++◌, length, take, vec_len, vec_capacity}
use Rattle.lrat_check.specs.Codes.{codes_of}
use Rattle.lrat_check.proofs.store.push_codes.Given as goal

abbrev pub invariant-loop-lit : goal.invariant-loop-lit
invariant-loop-lit l = (l.codes.items ≡ l.fn.codes.items ++ codes_of (take l.lit-index l.lits))
    × (vec_len l.codes + (length l.lits - l.lit-index) ≤ vec_capacity l.codes)
