use Rattle.std.proofs.Common.{◌≡◌, ◌∙◌, ◌+◌, [], ◌∷◌, arith, sym}
use Rattle.std.specs.Prelude.{drop}
use Rattle.std.proofs.lemmas.Grind.{common_steps}
use Rattle.vl_elab_check_stmt.proofs.JoinedTargets.{targets_on, targets_end}
use Rattle.vl_elab_check_stmt.proofs.outputs.+target.Goals as goal

pub targets_of-loop-part-preserved : goal.targets_of-loop-part-preserved
targets_of-loop-part-preserved t c =
    let front : drop c.loop-part.part-index c.args.all.now ≡ c.part-item.result
    ∷ drop (c.loop-part.part-index + 1) c.args.all.now = grind (arith, common_steps) in
    targets_on c.loop-part.targets c.push.new.self c.in-Some.target c.args.all.now c.part-item.result
    c.loop-part.part-index _ front c.in_ok-push-in-Some.ensures.ok (sym c.in-Some.is ∙ c.in_ok-target.ensures)
    c.loop-part.invariant

pub targets_of-returns : goal.targets_of-returns
targets_of-returns t c =
    let gone : drop c.loop-part.part-index c.args.all.now ≡ [] = grind (arith, common_steps) in
    targets_end c.loop-part.targets c.args.all.now c.loop-part.part-index _ gone c.loop-part.invariant
