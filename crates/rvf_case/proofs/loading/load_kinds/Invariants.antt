use Rattle.std.proofs.Common.{◌≡◌, take}
use Rattle.std.specs.Prelude.{map}
use Rattle.rvf_case.specs.Texts.{asked_for}
use Rattle.rvf_case.proofs.Turns.{AreAnswers}
use Rattle.rvf_case.proofs.loading.load_kinds.Given as goal

abbrev pub invariant-loop-kind : goal.invariant-loop-kind
invariant-loop-kind l = record {
  kinds_are : map (λ x. x.kind) l.texts ≡ take l.kind-index l.kinds;
  each : AreAnswers (asked_for l.wanted.config.now l.wanted.files.now l.wanted.questions.now) l.texts;
}
