use Rattle.std.proofs.Common.{◌≡◌, ◌++◌, drop}
use Rattle.rvf_report.proofs.word.copies.Given as goal

abbrev pub invariant-loop-text : goal.invariant-loop-text
invariant-loop-text l = l.values ++ drop l.text-index l.texts ≡ l.texts
