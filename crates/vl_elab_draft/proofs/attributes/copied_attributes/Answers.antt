use Rattle.std.proofs.Common.{◌≡◌, ◌+◌, [], ◌∷◌, arith, refl, ap}
use Rattle.std.specs.Prelude.{drop}
use Rattle.std.proofs.lemmas.Grind.{common_steps}
use Rattle.vl_elab_draft.proofs.Laid.{laid_on, laid_end, laid-list}
use Rattle.vl_elab_draft.proofs.attributes.copied_attributes.Goals as goal

pub loop-instance-preserved : goal.loop-instance-preserved
loop-instance-preserved c =
    let front : drop c.loop-instance.instance-index c.args.all.now ≡ c.instance-item.result
    ∷ drop (c.loop-instance.instance-index + 1) c.args.all.now = grind (arith, common_steps) in
    laid_on (λ x l. x ∷ l) (λ l. l) (λ l. l) _ _ c.args.all.now _ _ c.loop-instance.instance-index _
    (λ y ys. refl) front
    c.in_ok-push.ensures.ok (ap (λ x. x ∷ drop
    (c.loop-instance.instance-index + 1) c.args.all.now) c.in_ok-copied_instance.ensures)
    c.loop-instance.invariant

pub returns : goal.returns
returns c =
    let gone : drop c.loop-instance.instance-index c.args.all.now ≡ [] = grind (arith, common_steps) in
    laid_end (λ x l. x ∷ l) (λ l. l) (λ l. l) _ c.args.all.now c.loop-instance.instance-index _ refl
    (laid-list _) gone
    c.loop-instance.invariant
