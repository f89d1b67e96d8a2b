use Rattle.std.proofs.Common.{◌≡◌, ◌<◌, ◌^◌, get_or, ℕ, length}
use Rattle.fv_bits.specs.Bits.{extended}
use Rattle.vl_size.proofs.row.Row.extended.Given as goal

abbrev pub invariant-loop-width : goal.invariant-loop-width
invariant-loop-width l =
    (length l.at ≡ 129) × ((k : ℕ) → k < l.width → get_or l.at k 0 ≡ extended l.from k l.signed l.number)
    × ((k : ℕ) → k < l.width → get_or l.at k 0 < 2 ^ k)
