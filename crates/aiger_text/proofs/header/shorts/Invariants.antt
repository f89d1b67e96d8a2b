use Rattle.std.proofs.Common.{◌≡◌, ◌<◌, ◌^◌, [], length}
use Rattle.std.specs.List.{AllByRecursion}
use Rattle.aiger_text.specs.Lines.{words}
use Rattle.aiger_text.specs.Header.{shorts}
use Rattle.aiger_text.proofs.header.shorts.Given as goal

abbrev pub invariant-loop-word : goal.invariant-loop-word
invariant-loop-word l = record {
  left : shorts l.numbers.items (words l.rest) ≡ shorts [] (words l.text);
  small : AllByRecursion (λ n. n < 10 ^ 20) l.numbers.items;
}

abbrev pub decreases-loop-word : goal.decreases-loop-word
decreases-loop-word l = length l.rest
