use Rattle.std.proofs.Common.{◌≡◌, ◌∙◌, ◌+◌, ◌<◌, ◌≤◌, ◌^◌, ℕ, ap, arith, length, subst, sym}
use Rattle.std.proofs.lemmas.List.{length-append}
use Rattle.std.specs.Vec.Iter.{into_iter_items}
use Rattle.rvf_report.proofs.Standing.{next_answer, one_placed, taken_front}
use Rattle.rvf_report.proofs.progress.deliver_answers.Goals as goal

-- one more fits
next_room : (place here more many n : ℕ) → place + many < 2 ^ 64 → here ≡ place + n → n + more ≡ many → 1 ≤ more
    → here + 1 < 2 ^ 64
next_room place here more many n room is all some = omega arith

pub deliver_answer-requires-clause-answers : goal.deliver_answer-requires-clause-answers
deliver_answer-requires-clause-answers g c κs longer =
    let plan = g.Q.Inquiry.plan c.args.inquiry.now in
    let start : into_iter_items c.into_iter-answer-iterator.result ≡ c.args.answers.items =
    c.into_iter-answer-iterator.ensures.into_iter_gives.0 in
    let split =
    sym start
    ∙ taken_front c.into_iter-answer-iterator.result c.loop-answer.yielded c.loop-answer.answer-iterator
    c.loop-answer.yielded_by in
    subst (λ n. plan.is_answer n c.in-Some.answer) (sym c.loop-answer.invariant.placed)
    (next_answer plan c.args.before.place c.args.answers.items c.loop-answer.yielded _ _ c.in-Some.answer split
    c.in-Some.ensures.steps.0 c.requires.answers)

pub deliver_answer-requires-clause-room : goal.deliver_answer-requires-clause-room
deliver_answer-requires-clause-room g c κs longer =
    let start : into_iter_items c.into_iter-answer-iterator.result ≡ c.args.answers.items =
    c.into_iter-answer-iterator.ensures.into_iter_gives.0 in
    let split =
    sym start
    ∙ taken_front c.into_iter-answer-iterator.result c.loop-answer.yielded c.loop-answer.answer-iterator
    c.loop-answer.yielded_by in
    let rest = into_iter_items c.loop-answer.answer-iterator in
    let some : 1 ≤ length rest = omega (arith, ap length c.in-Some.ensures.steps.0) in
    let many : length c.loop-answer.yielded + length rest ≡ length c.args.answers.items =
    sym (ap length split ∙ length-append c.loop-answer.yielded rest) in
    next_room c.args.before.place c.loop-answer.progress.place (length rest) (length c.args.answers.items)
    (length c.loop-answer.yielded) c.requires.room c.loop-answer.invariant.placed many some

pub loop-answer-preserved : goal.loop-answer-preserved
loop-answer-preserved g c =
    record {
      placed = one_placed _ _ _ c.loop-answer.yielded c.in-Some.answer c.in-Ok.ensures.more
          c.loop-answer.invariant.placed;
      tallied = c.in-Ok.ensures.tallied;
      stands = λ first stands. c.in-Ok.ensures.proceeds first (c.loop-answer.invariant.stands first stands);
    }

pub returns-in-Err-clause-proceeds : goal.returns-in-Err-clause-proceeds
returns-in-Err-clause-proceeds g c = λ first stands.
    c.in-Err.ensures.proceeds first (c.loop-answer.invariant.stands first stands)

pub returns-clause-proceeds : goal.returns-clause-proceeds
returns-clause-proceeds g c = c.loop-answer.invariant.stands
