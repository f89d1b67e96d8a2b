use Rattle.std.proofs.Common.{◌≡◌, Some, slice_get, sym}
use Rattle.rvf_checks.proofs.Loaded.{answer_at, few_channels, fit_at, not_missing, question_of_port}
use Rattle.rvf_checks.proofs.answering.judge_at.Goals as goal

pub judge-requires-clause-names : goal.judge-requires-clause-names
judge-requires-clause-names g c κs lives =
    (fit_at c.args.case.now c.args.place c.in-Some.question.now c.requires.ready (sym c.in-Some.ensures.value)
    c.in-Some-loaded_for.loaded.now c.in-Some-loaded_for.ensures).names

pub judge-requires-clause-graphic : goal.judge-requires-clause-graphic
judge-requires-clause-graphic g c κs lives =
    (fit_at c.args.case.now c.args.place c.in-Some.question.now c.requires.ready (sym c.in-Some.ensures.value)
    c.in-Some-loaded_for.loaded.now c.in-Some-loaded_for.ensures).graphic

pub judge-requires-clause-port : goal.judge-requires-clause-port
judge-requires-clause-port g c κs lives =
    (fit_at c.args.case.now c.args.place c.in-Some.question.now c.requires.ready (sym c.in-Some.ensures.value)
    c.in-Some-loaded_for.loaded.now c.in-Some-loaded_for.ensures).port

pub judge-requires-clause-question : goal.judge-requires-clause-question
judge-requires-clause-question g c κs lives =
    question_of_port c.args.case.now.config.nret c.in-Some.question.now c.in-Some-loaded_for.loaded.now
    (fit_at c.args.case.now c.args.place c.in-Some.question.now c.requires.ready (sym c.in-Some.ensures.value)
    c.in-Some-loaded_for.loaded.now c.in-Some-loaded_for.ensures)

pub judge-requires-clause-few : goal.judge-requires-clause-few
judge-requires-clause-few g c κs lives =
    few_channels c.args.case.now.config.nret c.in-Some.question.now c.in-Some-loaded_for.loaded.now
    (fit_at c.args.case.now c.args.place c.in-Some.question.now c.requires.ready (sym c.in-Some.ensures.value)
    c.in-Some-loaded_for.loaded.now c.in-Some-loaded_for.ensures)

pub judge-requires-clause-probe : goal.judge-requires-clause-probe
judge-requires-clause-probe g c κs lives =
    (fit_at c.args.case.now c.args.place c.in-Some.question.now c.requires.ready (sym c.in-Some.ensures.value)
    c.in-Some-loaded_for.loaded.now c.in-Some-loaded_for.ensures).probe

pub judge-requires-clause-inputs : goal.judge-requires-clause-inputs
judge-requires-clause-inputs g c κs lives =
    (fit_at c.args.case.now c.args.place c.in-Some.question.now c.requires.ready (sym c.in-Some.ensures.value)
    c.in-Some-loaded_for.loaded.now c.in-Some-loaded_for.ensures).inputs

pub judge-requires-clause-state : goal.judge-requires-clause-state
judge-requires-clause-state g c κs lives =
    (fit_at c.args.case.now c.args.place c.in-Some.question.now c.requires.ready (sym c.in-Some.ensures.value)
    c.in-Some-loaded_for.loaded.now c.in-Some-loaded_for.ensures).state

pub unreachable-requires : goal.unreachable-requires
unreachable-requires g c =
    let q = c.in-Some.question.now in
    let there : slice_get c.args.case.now.questions c.args.place ≡ Some q = sym c.in-Some.ensures.value in
    absurd (not_missing c.args.case.now c.args.place q c.requires.ready there c.in_default-loaded_for.ensures)

pub returns : goal.returns
returns g c =
    let q = c.in-Some.question.now in
    let there : slice_get c.args.case.now.questions c.args.place ≡ Some q = sym c.in-Some.ensures.value in
    answer_at (g.S.Search.more c.args.search.now) c.args.case.now c.args.budget c.args.place q
    c.in-Some-loaded_for.loaded.now c.judge.result there c.in-Some-loaded_for.ensures c.judge.ensures
