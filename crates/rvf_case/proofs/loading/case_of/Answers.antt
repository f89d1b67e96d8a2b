use Rattle.std.proofs.Common.{◌≡◌, ◌∙◌, ◌<◌, ◌^◌, Err, List, Ok, length, refl, subst, sym}
use Rattle.std.specs.List.{AllByRecursion}
use Rattle.std.proofs.lemmas.Result.{err_from_is_err_and}
use Rattle.ck_ask.specs.Asked.{IsQuestion}
use Rattle.ck_ask.specs.declared.question.Question.{Question}
use Rattle.rvf_case.specs.Askings.{asking_seen}
use Rattle.rvf_case.specs.Steps.{Loads, LoadsInTurn, StopsAt}
use Rattle.rvf_case.specs.Texts.{asked_for, leaders, questions_of}
use Rattle.rvf_case.specs.declared.loading.Stop.{Stop}
use Rattle.rvf_case.proofs.Counting.{few_questions}
use Rattle.rvf_case.proofs.Readiness.{in_range, questions_lawful, ready}
use Rattle.rvf_case.proofs.Turns.{at_question}
use Rattle.rvf_case.proofs.loading.case_of.Goals as goal

pub returns-in_err-checks-clause-loads : goal.returns-in_err-checks-clause-loads
returns-in_err-checks-clause-loads c =
    let p = err_from_is_err_and c.from_residual.result c.from_residual.ensures.1 in
    rw (p.1, p.2) tt

pub returns-in_err-questions-clause-loads : goal.returns-in_err-questions-clause-loads
returns-in_err-questions-clause-loads c =
    let p = err_from_is_err_and c.from_residual-in_err-questions.result c.from_residual-in_err-questions.ensures.1 in
    rw (p.1, p.2) tt

pub load_all-requires-clause-checks : goal.load_all-requires-clause-checks
load_all-requires-clause-checks c = c.as_slice.ensures ∙ c.in_ok-checks.ensures

pub load_all-requires-clause-lawful : goal.load_all-requires-clause-lawful
load_all-requires-clause-lawful c =
    let all : c.as_slice-2.result.now ≡ questions_of (asking_seen c.args.asking) c.args.config =
    c.as_slice-2.ensures ∙ c.in_ok-questions.ensures in
    subst (AllByRecursion (IsQuestion c.args.config.nret)) (sym all)
    (questions_lawful (asking_seen c.args.asking) c.args.config (in_range c.args.asking) c.requires.lawful)

pub load_all-requires-clause-few : goal.load_all-requires-clause-few
load_all-requires-clause-few c =
    let all : c.as_slice-2.result.now ≡ questions_of (asking_seen c.args.asking) c.args.config =
    c.as_slice-2.ensures ∙ c.in_ok-questions.ensures in
    subst (λ (qs : List Question). length qs < 2 ^ 32) (sym all)
    (few_questions (asking_seen c.args.asking) c.args.config c.requires.channels.1)

pub returns-in-Ok-clause-loads : goal.returns-in-Ok-clause-loads
returns-in-Ok-clause-loads c =
    let all : c.as_slice-2.result.now ≡ questions_of (asking_seen c.args.asking) c.args.config =
    c.as_slice-2.ensures ∙ c.in_ok-questions.ensures in
    record {
      config_is = refl;
      questions_are = c.in_ok-questions.ensures;
      loaded = subst (λ (qs : List Question). LoadsInTurn (asked_for c.args.config c.args.files.now qs)
          (leaders c.args.config qs) (Ok c.in-Ok.texts)) all c.in-Ok.ensures;
    }

pub returns-in-Ok-clause-ready : goal.returns-in-Ok-clause-ready
returns-in-Ok-clause-ready c =
    ready (asking_seen c.args.asking) c.args.config c.args.files.now c.in_ok-questions.questions c.in-Ok.texts
    c.in_ok-questions.ensures
    (subst (λ (qs : List Question). LoadsInTurn (asked_for c.args.config c.args.files.now qs)
    (leaders c.args.config qs) (Ok c.in-Ok.texts)) c.as_slice-2.ensures c.in-Ok.ensures)
    (in_range c.args.asking) c.requires.lawful c.requires.channels.1

pub refusal_of-requires : goal.refusal_of-requires
refusal_of-requires c =
    let qs = c.as_slice-in-Err-Refused.result.now in
    let h : StopsAt (asked_for c.args.config c.args.files.now qs) (leaders c.args.config qs)
    c.in-Err-Refused.kind c.in-Err-Refused.fault =
    subst (λ (s : Stop). LoadsInTurn (asked_for c.args.config c.args.files.now qs) (leaders c.args.config qs) (Err s))
    c.in-Err-Refused.field-0-is
    (subst (λ (xs : List Question). LoadsInTurn (asked_for c.args.config c.args.files.now xs)
    (leaders c.args.config xs) (Err c.in-Err-Refused.field-0))
    (c.as_slice-2.ensures ∙ sym c.as_slice-in-Err-Refused.ensures) c.in-Err-Refused.ensures) in
    at_question c.args.config c.args.files.now qs c.in-Err-Refused.kind c.in-Err-Refused.fault h.refused.is

pub returns-in_err-refusal-in-Err-Refused-clause-loads : goal.returns-in_err-refusal-in-Err-Refused-clause-loads
returns-in_err-refusal-in-Err-Refused-clause-loads c =
    let p = err_from_is_err_and c.from_residual-in_err-refusal-in-Err-Refused.result
    c.from_residual-in_err-refusal-in-Err-Refused.ensures.1 in
    rw (p.1, p.2) tt

pub returns-in-Err-Refused-clause-loads : goal.returns-in-Err-Refused-clause-loads
returns-in-Err-Refused-clause-loads c =
    let qs = c.as_slice-in-Err-Refused.result.now in
    let all : qs ≡ questions_of (asking_seen c.args.asking) c.args.config =
    c.as_slice-in-Err-Refused.ensures ∙ c.in_ok-questions.ensures in
    let h : StopsAt (asked_for c.args.config c.args.files.now qs) (leaders c.args.config qs)
    c.in-Err-Refused.kind c.in-Err-Refused.fault =
    subst (λ (s : Stop). LoadsInTurn (asked_for c.args.config c.args.files.now qs) (leaders c.args.config qs) (Err s))
    c.in-Err-Refused.field-0-is
    (subst (λ (xs : List Question). LoadsInTurn (asked_for c.args.config c.args.files.now xs)
    (leaders c.args.config xs) (Err c.in-Err-Refused.field-0))
    (c.as_slice-2.ensures ∙ sym c.as_slice-in-Err-Refused.ensures) c.in-Err-Refused.ensures) in
    subst (λ (xs : List Question). Loads c.args.names c.args.config c.args.files.now xs
    (Err c.in_ok-refusal-in-Err-Refused.refusal)) all (c.in_ok-refusal-in-Err-Refused.ensures c.args.files.now h)
