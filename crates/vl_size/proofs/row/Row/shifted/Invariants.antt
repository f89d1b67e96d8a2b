use Rattle.std.proofs.Common.{◌≡◌, ◌<◌, ◌^◌, get_or, ℕ, length}
use Rattle.vl_size.specs.Size.{shifted}
use Rattle.vl_size.proofs.row.Row.shifted.Given as goal

abbrev pub invariant-loop-width : goal.invariant-loop-width
invariant-loop-width l =
    (length l.at ≡ 129) × ((k : ℕ) → k < l.width
    → get_or l.at k 0 ≡ shifted l.operator k l.signed (get_or l.self.at k 0) l.by)
    × ((k : ℕ) → k < l.width → get_or l.at k 0 < 2 ^ k)
