use Rattle.std.proofs.Common.{◌≡◌, ◌+◌, ◌++◌, length, ap, ◌∙◌}
use Rattle.sat_cubes.specs.Cubes.{old_literal}
use Rattle.sat_cubes.specs.Lifting.{Ids, listed, first_ids, lifted}
use Rattle.sat_cubes.proofs.lifting.lift.Goals as goal

pub loop-step-init : goal.loop-step-init
loop-step-init c =
    let r = c.args.refutation.now in
    let s = c.args.book.now in
    let e : listed c.in_ok-ids.ids ≡ first_ids r.ids = c.in_ok-ids.ensures ∙ ap first_ids c.as_slice.ensures in (
      ap (λ (m : Ids). s.steps ++ lifted (old_literal r.numbers) c.args.block.now m s.top r.steps) e,
      ap (λ (m : Ids). s.top + length (lifted (old_literal r.numbers) c.args.block.now m s.top r.steps)) e,
      λ h. h,
    )
