use Rattle.std.proofs.Common.{◌≡◌, ◌<◌, ◌%◌, ◌^◌, drop}
use Rattle.vl_token.specs.Number.{digits_of}
use Rattle.vl_token.specs.Marks.{test_of, mark_worth, all_bits}
use Rattle.vl_token.proofs.Folds.{steps}
use Rattle.vl_token.proofs.number.mark_bits.Given as goal

abbrev pub invariant-loop-byte : goal.invariant-loop-byte
invariant-loop-byte l = record {
  small : l.bits < 2 ^ 128;
  same : steps (mark_worth (test_of l.mark) l.radix) l.radix l.bits (digits_of (drop l.byte-index l.digits)) % 2 ^ 128
      ≡ steps (mark_worth (test_of l.mark) l.radix) l.radix (all_bits (test_of l.mark) (digits_of l.digits))
      (digits_of l.digits) % 2 ^ 128;
}
