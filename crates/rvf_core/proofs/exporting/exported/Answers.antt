use Rattle.std.proofs.Common.{◌≡◌, Some, slice_get, sym}
use Rattle.rvf_checks.proofs.Loaded.{few_channels, fit_at, not_missing, question_of_port}
use Rattle.rvf_core.proofs.ExportLaws.{graph_report, none_first}
use Rattle.rvf_core.proofs.FromFiles.{if_both, if_ok}
use Rattle.rvf_core.proofs.exporting.exported.Goals as goal

pub unreachable-requires : goal.unreachable-requires
unreachable-requires c =
    absurd (none_first c.args.case.now.questions _ c.requires.one.1 c.in_default.ensures.value)

pub graph_text-requires-clause-port : goal.graph_text-requires-clause-port
graph_text-requires-clause-port c =
    (fit_at c.args.case.now 0 c.in-Some.question.now c.requires.ready (sym c.in-Some.ensures.value)
    c.in-Some-loaded_for.loaded.now c.in-Some-loaded_for.ensures).port

pub graph_text-requires-clause-question : goal.graph_text-requires-clause-question
graph_text-requires-clause-question c =
    question_of_port c.args.case.now.config.nret c.in-Some.question.now c.in-Some-loaded_for.loaded.now
    (fit_at c.args.case.now 0 c.in-Some.question.now c.requires.ready (sym c.in-Some.ensures.value)
    c.in-Some-loaded_for.loaded.now c.in-Some-loaded_for.ensures)

pub graph_text-requires-clause-few : goal.graph_text-requires-clause-few
graph_text-requires-clause-few c =
    few_channels c.args.case.now.config.nret c.in-Some.question.now c.in-Some-loaded_for.loaded.now
    (fit_at c.args.case.now 0 c.in-Some.question.now c.requires.ready (sym c.in-Some.ensures.value)
    c.in-Some-loaded_for.loaded.now c.in-Some-loaded_for.ensures)

pub graph_text-requires-clause-probe : goal.graph_text-requires-clause-probe
graph_text-requires-clause-probe c =
    (fit_at c.args.case.now 0 c.in-Some.question.now c.requires.ready (sym c.in-Some.ensures.value)
    c.in-Some-loaded_for.loaded.now c.in-Some-loaded_for.ensures).probe

pub graph_text-requires-clause-inputs : goal.graph_text-requires-clause-inputs
graph_text-requires-clause-inputs c =
    (fit_at c.args.case.now 0 c.in-Some.question.now c.requires.ready (sym c.in-Some.ensures.value)
    c.in-Some-loaded_for.loaded.now c.in-Some-loaded_for.ensures).inputs

pub graph_text-requires-clause-state : goal.graph_text-requires-clause-state
graph_text-requires-clause-state c =
    (fit_at c.args.case.now 0 c.in-Some.question.now c.requires.ready (sym c.in-Some.ensures.value)
    c.in-Some-loaded_for.loaded.now c.in-Some-loaded_for.ensures).state

pub unreachable-requires-in_default-loaded_for : goal.unreachable-requires-in_default-loaded_for
unreachable-requires-in_default-loaded_for c =
    let q = c.in-Some.question.now in
    let there : slice_get c.args.case.now.questions 0 ≡ Some q = sym c.in-Some.ensures.value in
    absurd (not_missing c.args.case.now 0 q c.requires.ready there c.in_default-loaded_for.ensures)

pub returns : goal.returns
returns c =
    if_ok _ _
    (λ report p. graph_report c.args.case.now c.args.file.now c.in-Some.question.now
    c.in-Some-loaded_for.loaded.now c.in_ok-made.made report (sym c.in-Some.ensures.value)
    c.in-Some-loaded_for.ensures c.in_ok-made.ensures p.0 p.1) c.with_file.result
    (if_both _ _ c.with_file.result c.with_file.ensures.status c.with_file.ensures.deliveries)
