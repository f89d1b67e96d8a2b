use Rattle.std.proofs.Common.{◌≡◌, ◌++◌, drop}
use Rattle.rvf_case.specs.Texts.{factors_of, with_text}
use Rattle.rvf_case.proofs.asked.factors_for.Given as goal

abbrev pub invariant-loop-question : goal.invariant-loop-question
invariant-loop-question l =
    l.factors.items ++ factors_of (with_text l.config l.kind (drop l.question-index l.questions))
    ≡ factors_of (with_text l.config l.kind l.questions)
