use Rattle.std.proofs.Common.{length, refl, sym, ◌∙◌}
use Rattle.std.proofs.lemmas.Bool.{ltb-true}
use Rattle.std.proofs.lemmas.Option.{slice_get_read}
use Rattle.bm_decide.specs.Searches.{TakesFewer}
use Rattle.ck_ask.specs.declared.question.Question.TheVariants as question
use Rattle.rvf_checks.proofs.Loaded.{few_channels, question_of_port}
use Rattle.rvf_checks.proofs.Lengthy.{in_checks, length_answer, length_skipped, length_there, own_fit}
use Rattle.rvf_checks.proofs.length_job.induct_at.Goals as goal

pub returns-then-not-is_of_one_cycle : goal.returns-then-not-is_of_one_cycle
returns-then-not-is_of_one_cycle c =
    let case = c.args.case.now in
    let x = c.in-Some.check.now in
    let get = c.in-Some.ensures.lookup in
    let there = in_checks case c.args.checks.now c.args.place x c.requires.checks
    (slice_get_read c.args.checks.now (length c.args.checks.now) c.args.place x refl
    (ltb-true c.args.place (length c.args.checks.now) (sym get.0)) get.1) in
    length_skipped TakesFewer case c.args.steps.number c.args.budget c.args.place x there
    (sym c.is_of_one_cycle.ensures ∙ c.if-not-is_of_one_cycle.true)

pub unreachable-requires : goal.unreachable-requires
unreachable-requires c =
    let case = c.args.case.now in
    let x = c.in-Some.check.now in
    let get = c.in-Some.ensures.lookup in
    let there = in_checks case c.args.checks.now c.args.place x c.requires.checks
    (slice_get_read c.args.checks.now (length c.args.checks.now) c.args.place x refl
    (ltb-true c.args.place (length c.args.checks.now) (sym get.0)) get.1) in
    let one = sym c.is_of_one_cycle.ensures ∙ c.if-not-is_of_one_cycle.false in
    absurd (length_there case c.args.steps.number c.args.place x c.requires.ready c.requires.asked there one
    c.in_default-loaded_of.ensures)

pub induct-requires-clause-names : goal.induct-requires-clause-names
induct-requires-clause-names c κs =
    let case = c.args.case.now in
    let x = c.in-Some.check.now in
    let get = c.in-Some.ensures.lookup in
    let there = in_checks case c.args.checks.now c.args.place x c.requires.checks
    (slice_get_read c.args.checks.now (length c.args.checks.now) c.args.place x refl
    (ltb-true c.args.place (length c.args.checks.now) (sym get.0)) get.1) in
    let one = sym c.is_of_one_cycle.ensures ∙ c.if-not-is_of_one_cycle.false in
    let fit = own_fit case c.args.steps.number c.args.place x c.requires.ready c.requires.asked there one c.in_ok-own.own
    c.in_ok-own.ensures c.in-Some-loaded_of.loaded.now c.in-Some-loaded_of.ensures in
    fit.names

pub induct-requires-clause-graphic : goal.induct-requires-clause-graphic
induct-requires-clause-graphic c κs =
    let case = c.args.case.now in
    let x = c.in-Some.check.now in
    let get = c.in-Some.ensures.lookup in
    let there = in_checks case c.args.checks.now c.args.place x c.requires.checks
    (slice_get_read c.args.checks.now (length c.args.checks.now) c.args.place x refl
    (ltb-true c.args.place (length c.args.checks.now) (sym get.0)) get.1) in
    let one = sym c.is_of_one_cycle.ensures ∙ c.if-not-is_of_one_cycle.false in
    let fit = own_fit case c.args.steps.number c.args.place x c.requires.ready c.requires.asked there one c.in_ok-own.own
    c.in_ok-own.ensures c.in-Some-loaded_of.loaded.now c.in-Some-loaded_of.ensures in
    fit.graphic

pub induct-requires-clause-port : goal.induct-requires-clause-port
induct-requires-clause-port c κs =
    let case = c.args.case.now in
    let x = c.in-Some.check.now in
    let get = c.in-Some.ensures.lookup in
    let there = in_checks case c.args.checks.now c.args.place x c.requires.checks
    (slice_get_read c.args.checks.now (length c.args.checks.now) c.args.place x refl
    (ltb-true c.args.place (length c.args.checks.now) (sym get.0)) get.1) in
    let one = sym c.is_of_one_cycle.ensures ∙ c.if-not-is_of_one_cycle.false in
    let fit = own_fit case c.args.steps.number c.args.place x c.requires.ready c.requires.asked there one c.in_ok-own.own
    c.in_ok-own.ensures c.in-Some-loaded_of.loaded.now c.in-Some-loaded_of.ensures in
    fit.port

pub induct-requires-clause-check : goal.induct-requires-clause-check
induct-requires-clause-check c κs =
    let case = c.args.case.now in
    let x = c.in-Some.check.now in
    let get = c.in-Some.ensures.lookup in
    let there = in_checks case c.args.checks.now c.args.place x c.requires.checks
    (slice_get_read c.args.checks.now (length c.args.checks.now) c.args.place x refl
    (ltb-true c.args.place (length c.args.checks.now) (sym get.0)) get.1) in
    let one = sym c.is_of_one_cycle.ensures ∙ c.if-not-is_of_one_cycle.false in
    let fit = own_fit case c.args.steps.number c.args.place x c.requires.ready c.requires.asked there one c.in_ok-own.own
    c.in_ok-own.ensures c.in-Some-loaded_of.loaded.now c.in-Some-loaded_of.ensures in
    question_of_port case.config.nret (question.Check c.in_ok-own.own) c.in-Some-loaded_of.loaded.now fit

pub induct-requires-clause-channels : goal.induct-requires-clause-channels
induct-requires-clause-channels c κs =
    let case = c.args.case.now in
    let x = c.in-Some.check.now in
    let get = c.in-Some.ensures.lookup in
    let there = in_checks case c.args.checks.now c.args.place x c.requires.checks
    (slice_get_read c.args.checks.now (length c.args.checks.now) c.args.place x refl
    (ltb-true c.args.place (length c.args.checks.now) (sym get.0)) get.1) in
    let one = sym c.is_of_one_cycle.ensures ∙ c.if-not-is_of_one_cycle.false in
    let fit = own_fit case c.args.steps.number c.args.place x c.requires.ready c.requires.asked there one c.in_ok-own.own
    c.in_ok-own.ensures c.in-Some-loaded_of.loaded.now c.in-Some-loaded_of.ensures in
    few_channels case.config.nret (question.Check c.in_ok-own.own) c.in-Some-loaded_of.loaded.now fit

pub induct-requires-clause-probe : goal.induct-requires-clause-probe
induct-requires-clause-probe c κs =
    let case = c.args.case.now in
    let x = c.in-Some.check.now in
    let get = c.in-Some.ensures.lookup in
    let there = in_checks case c.args.checks.now c.args.place x c.requires.checks
    (slice_get_read c.args.checks.now (length c.args.checks.now) c.args.place x refl
    (ltb-true c.args.place (length c.args.checks.now) (sym get.0)) get.1) in
    let one = sym c.is_of_one_cycle.ensures ∙ c.if-not-is_of_one_cycle.false in
    let fit = own_fit case c.args.steps.number c.args.place x c.requires.ready c.requires.asked there one c.in_ok-own.own
    c.in_ok-own.ensures c.in-Some-loaded_of.loaded.now c.in-Some-loaded_of.ensures in
    fit.probe

pub induct-requires-clause-inputs : goal.induct-requires-clause-inputs
induct-requires-clause-inputs c κs =
    let case = c.args.case.now in
    let x = c.in-Some.check.now in
    let get = c.in-Some.ensures.lookup in
    let there = in_checks case c.args.checks.now c.args.place x c.requires.checks
    (slice_get_read c.args.checks.now (length c.args.checks.now) c.args.place x refl
    (ltb-true c.args.place (length c.args.checks.now) (sym get.0)) get.1) in
    let one = sym c.is_of_one_cycle.ensures ∙ c.if-not-is_of_one_cycle.false in
    let fit = own_fit case c.args.steps.number c.args.place x c.requires.ready c.requires.asked there one c.in_ok-own.own
    c.in_ok-own.ensures c.in-Some-loaded_of.loaded.now c.in-Some-loaded_of.ensures in
    fit.inputs

pub induct-requires-clause-state : goal.induct-requires-clause-state
induct-requires-clause-state c κs =
    let case = c.args.case.now in
    let x = c.in-Some.check.now in
    let get = c.in-Some.ensures.lookup in
    let there = in_checks case c.args.checks.now c.args.place x c.requires.checks
    (slice_get_read c.args.checks.now (length c.args.checks.now) c.args.place x refl
    (ltb-true c.args.place (length c.args.checks.now) (sym get.0)) get.1) in
    let one = sym c.is_of_one_cycle.ensures ∙ c.if-not-is_of_one_cycle.false in
    let fit = own_fit case c.args.steps.number c.args.place x c.requires.ready c.requires.asked there one c.in_ok-own.own
    c.in_ok-own.ensures c.in-Some-loaded_of.loaded.now c.in-Some-loaded_of.ensures in
    fit.state

pub returns : goal.returns
returns c =
    let case = c.args.case.now in
    let x = c.in-Some.check.now in
    let get = c.in-Some.ensures.lookup in
    let there = in_checks case c.args.checks.now c.args.place x c.requires.checks
    (slice_get_read c.args.checks.now (length c.args.checks.now) c.args.place x refl
    (ltb-true c.args.place (length c.args.checks.now) (sym get.0)) get.1) in
    let one = sym c.is_of_one_cycle.ensures ∙ c.if-not-is_of_one_cycle.false in
    length_answer case c.args.steps.number c.args.place x c.requires.ready c.requires.asked there one
    TakesFewer c.args.budget c.in-Some-loaded_of.loaded.now c.in_ok-own.own c.induct.result
    c.in-Some-loaded_of.ensures c.in_ok-own.ensures c.induct.ensures
