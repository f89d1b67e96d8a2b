use Rattle.std.specs.Prelude.{◌≡◌, ◌++◌, replicate}
use Rattle.vl_lower.proofs.cells.push_times.Given as goal

abbrev pub invariant-loop : goal.invariant-loop
invariant-loop l = l.numbers ≡ l.fn.numbers ++ replicate l.counter l.number
