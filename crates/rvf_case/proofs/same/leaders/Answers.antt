use Rattle.std.proofs.Common.{◌≡◌, ◌∙◌, ◌++◌, ◌∷◌, [], true, false, ap, sym, rules}
use Rattle.ck_cfg.specs.declared.kind.CheckKind.{CheckKind}
use Rattle.std.specs.Prelude.{List}
use Rattle.rvf_case.specs.Steps.{has_same}
use Rattle.rvf_case.proofs.Sames.{led_already, led_by_new}
use Rattle.rvf_case.proofs.same.leaders.Goals as goal
use Rattle.rvf_case.proofs.same.leaders.Goals.{then-not-has_same+in_ok-push, else-not-has_same}
use Rattle.ck_ask.specs.Questions.{question_kind}

pub loop-question-preserved : goal.loop-question-preserved
loop-question-preserved c =
    let kinds = c.loop-question.kinds.items in
    let q = c.question-item.result in
    let config = c.args.config.now in
    let kind_is : c.kind-kind.result ≡ question_kind q = c.kind-kind.ensures in
    let same : c.has_same.result ≡ has_same config kinds (question_kind q) =
    c.has_same.ensures ∙ ap (λ (ks : List CheckKind). has_same config ks c.kind-kind.result) c.as_slice.ensures.value
    ∙ ap (has_same config kinds) kind_is in
    elim c.if-not-has_same.branch [
      | then-not-has_same+in_ok-push w ↦
          let none : c.has_same.result ≡ false = search rules in
          let new : c.if-not-has_same.kinds.items ≡ kinds ++ c.kind-kind.result ∷ [] = search rules in
          led_by_new config c.args.questions.now c.loop-question.question-index q q kinds
          c.if-not-has_same.kinds.items _ c.loop-question-test.true c.question-item.is c.loop-question.invariant
          (sym same ∙ none) (new ∙ ap (λ (k : CheckKind). kinds ++ k ∷ []) kind_is)
      | else-not-has_same w ↦
          let some : c.has_same.result ≡ true = search rules in
          let new : c.if-not-has_same.kinds.items ≡ kinds = search rules in
          led_already config c.args.questions.now c.loop-question.question-index q q kinds
          c.if-not-has_same.kinds.items _ c.loop-question-test.true c.question-item.is c.loop-question.invariant
          (sym same ∙ some) new
    ]
