use Rattle.std.proofs.Common.{ap, sym, ◌∙◌, length, subst, List}
use Rattle.std.proofs.lemmas.Result.{IfOk-weaker}
use Rattle.bm_unroll.specs.declared.frames.Source.{Source}
use Rattle.tr_replay.specs.Traces.{choices_of}
use Rattle.bm_decide.specs.Chosen.{HaveNumbers}
use Rattle.bm_decide.proofs.Fails.{have_read, numbers_are, numbers_each}
use Rattle.bm_decide.proofs.choosing.chosen_of.Goals as goal

pub choices-requires-clause-each : goal.choices-requires-clause-each
choices-requires-clause-each c =
    numbers_each c.args.witness.now c.as_slice-3.result.now c.requires
    (numbers_are c.args.witness.now c.as_slice-3.result.now c.in_ok-numbers.numbers.items c.as_slice.result.now
    c.as_slice-values.result.now c.as_slice.ensures c.as_slice-values.ensures c.in_ok-numbers.ensures
    c.as_slice-3.ensures.value)
    ∙ sym (ap length c.as_slice-2.ensures)

pub returns : goal.returns
returns c =
    let x = c.args.witness.now in
    let ns = c.as_slice-3.result.now in
    IfOk-weaker c.choices.result _ _
    (λ made h. have_read x ns (choices_of made) c.requires
    (numbers_are x ns c.in_ok-numbers.numbers.items c.as_slice.result.now c.as_slice-values.result.now
    c.as_slice.ensures c.as_slice-values.ensures c.in_ok-numbers.ensures c.as_slice-3.ensures.value)
    (subst (λ (xs : List Source). HaveNumbers xs ns (choices_of made)) c.as_slice-2.ensures h))
    c.choices.ensures
