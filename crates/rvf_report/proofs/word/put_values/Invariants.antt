use Rattle.std.proofs.Common.{◌≡◌, ◌++◌, drop}
use Rattle.rvf_report.specs.Printed.{more_values}
use Rattle.rvf_report.proofs.word.put_values.Given as goal

abbrev pub invariant-loop-value : goal.invariant-loop-value
invariant-loop-value l =
    l.made.items ++ more_values (drop l.value-index l.values) ≡ l.fn.made.items ++ more_values l.values
