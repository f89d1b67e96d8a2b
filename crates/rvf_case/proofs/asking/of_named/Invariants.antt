use Rattle.std.proofs.Common.{◌≡◌}
use Rattle.std.specs.Prelude.{map}
use Rattle.ck_ask.specs.declared.question.Question.TheVariants as question
use Rattle.rvf_case.specs.Texts.{only_named}
use Rattle.rvf_case.proofs.asking.of_named.Given as goal

-- a question for the first check so far that has the name
abbrev pub invariant-loop-check : goal.invariant-loop-check
invariant-loop-check l = l.made ≡ map (λ x. question.Check x) (only_named l.name l.yielded)
