use Rattle.std.proofs.Common.{◌≡◌, [], drop}
use Rattle.rvf_case.specs.Texts.{leaders_behind}
use Rattle.rvf_case.proofs.same.leaders.Given as goal

abbrev pub invariant-loop-question : goal.invariant-loop-question
invariant-loop-question l =
    leaders_behind l.config l.kinds.items (drop l.question-index l.questions) ≡ leaders_behind l.config [] l.questions
