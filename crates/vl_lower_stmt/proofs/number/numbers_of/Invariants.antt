use Rattle.std.proofs.Common.{◌≡◌, take}
use Rattle.std.specs.Prelude.{map}
use Rattle.wn_net.specs.Net.{value_at}
use Rattle.vl_lower_stmt.specs.First.{nothing_given}
use Rattle.vl_lower_stmt.proofs.number.numbers_of.Given as goal

abbrev pub invariant-loop-cell : goal.invariant-loop-cell
invariant-loop-cell l = l.numbers ≡ map (value_at l.net nothing_given) (take l.cell-index l.cells)
