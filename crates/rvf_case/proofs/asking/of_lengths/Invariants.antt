use Rattle.std.proofs.Common.{◌≡◌}
use Rattle.std.specs.Prelude.{map}
use Rattle.ck_ask.specs.declared.question.Question.TheVariants as question
use Rattle.rvf_case.specs.Texts.{of_one_cycle}
use Rattle.rvf_case.proofs.asking.of_lengths.Given as goal

abbrev pub invariant-loop-check : goal.invariant-loop-check
invariant-loop-check l = l.made ≡ map (λ x. question.Check x) (of_one_cycle l.cycle l.yielded)
