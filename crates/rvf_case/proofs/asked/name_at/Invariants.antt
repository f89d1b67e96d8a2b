use Rattle.std.proofs.Common.{◌≡◌, ◌<◌, drop, length}
use Rattle.std.specs.Prelude.{slice_get}
use Rattle.rvf_case.specs.Texts.{with_text}
use Rattle.rvf_case.proofs.asked.name_at.Given as goal

abbrev pub invariant-loop-question : goal.invariant-loop-question
invariant-loop-question l = record {
  same : slice_get (with_text l.config l.kind (drop l.question-index l.questions)) l.left
      ≡ slice_get (with_text l.config l.kind l.questions) l.place;
  within : l.left < length (with_text l.config l.kind (drop l.question-index l.questions));
}
