use Rattle.std.proofs.Common.{◌≡◌, ◌<◌, ◌%◌, ◌^◌, drop}
use Rattle.vl_token.specs.Number.{digits_of, worth}
use Rattle.vl_token.proofs.Folds.{steps}
use Rattle.vl_token.proofs.number.long_value.Given as goal

abbrev pub invariant-loop-byte : goal.invariant-loop-byte
invariant-loop-byte l = record {
  small : l.value < 2 ^ 128;
  same : steps worth l.radix l.value (digits_of (drop l.byte-index l.digits)) % 2 ^ 128
      ≡ steps worth l.radix 0 (digits_of l.digits) % 2 ^ 128;
}
