use Rattle.std.proofs.Common.{◌≡◌, ◌+◌, ◌<◌, ◌^◌, ◌++◌, drop, length}
use Rattle.sat_cubes.specs.Cubes.{old_literal}
use Rattle.sat_cubes.specs.Lifting.{first_ids, listed, lifted}
use Rattle.sat_cubes.proofs.lifting.lift.Given as goal

abbrev pub invariant-loop-step : goal.invariant-loop-step
invariant-loop-step l =
    (l.book.steps ++ lifted (old_literal l.refutation.numbers) l.block (listed l.ids) l.book.top
    (drop l.step-index l.refutation.steps)
    ≡ l.fn.book.steps ++ lifted (old_literal l.refutation.numbers) l.block (first_ids l.refutation.ids) l.fn.book.top
    l.refutation.steps)
    × (l.book.top + length (lifted (old_literal l.refutation.numbers) l.block (listed l.ids) l.book.top
    (drop l.step-index l.refutation.steps))
    ≡ l.fn.book.top + length (lifted (old_literal l.refutation.numbers) l.block (first_ids l.refutation.ids)
    l.fn.book.top l.refutation.steps))
    × (l.fn.book.top < 10 ^ 18 → l.book.top < 10 ^ 18)
