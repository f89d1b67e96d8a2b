use Rattle.std.proofs.Common.{◌≡◌, ◌++◌, drop}
use Rattle.rvf_checks.specs.Checked.{skips_of}
use Rattle.rvf_checks.proofs.head.put_skips.Given as goal

abbrev pub invariant-loop-word : goal.invariant-loop-word
invariant-loop-word l = l.made ++ skips_of (drop l.word-index l.words) ≡ l.fn.made ++ skips_of l.words
