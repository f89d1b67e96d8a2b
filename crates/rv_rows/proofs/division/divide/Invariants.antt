use Rattle.std.proofs.Common.{◌<◌, ◌-◌}
use Rattle.wn_net.specs.Value.{Given}
use Rattle.wn_net.specs.Given.{IsGiven}
use Rattle.wn_net.specs.Net.{value_at}
use Rattle.wn_net.specs.Changes.{AddsNodes}
use Rattle.rv_rows.specs.Division.{IsDivided, AreDivision}
use Rattle.rv_rows.proofs.division.divide.Given as goal

abbrev pub invariant-loop-done : goal.invariant-loop-done
invariant-loop-done l = record {
  adds : AddsNodes l.fn.net l.net;
  there : AreDivision l.net l.division;
  value : (g : Given) → IsGiven l.fn.net g → 0 < value_at l.fn.net g l.b
      → IsDivided (value_at l.fn.net g l.a) (value_at l.fn.net g l.b) (32 - l.done)
      (value_at l.net g l.division.quotient) (value_at l.net g l.division.rest);
}
