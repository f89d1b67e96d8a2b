use Rattle.std.proofs.Common.{◌≡◌}
use Rattle.std.specs.Prelude.{map}
use Rattle.ck_ask.specs.declared.question.Question.TheVariants as question
use Rattle.rvf_case.proofs.asking.of_zb_checks.Given as goal

abbrev pub invariant-loop-check : goal.invariant-loop-check
invariant-loop-check l = l.made ≡ map (λ z. question.Zb z) l.yielded
